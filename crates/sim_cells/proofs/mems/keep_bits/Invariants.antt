use Rattle.std.proofs.Common.{◌≡◌, ℕ, ◌<◌, ◌≤◌, length, false, get_or}
use Rattle.ram_step.specs.Moments.{valuation}
use Rattle.sim_cells.specs.Memories.{picked_bit, next_tri}
use Rattle.sim_cells.proofs.mems.keep_bits.Given as goal

abbrev pub invariant-loop-place : goal.invariant-loop-place
invariant-loop-place l =
    (length l.kept ≡ length l.initial.kept)
    × (length l.hits ≡ length l.initial.hits)
    × ((k : ℕ) → k < l.place → get_or l.kept k false ≡ picked_bit l.key l.port (next_tri l.words l.mem (valuation l.values) l.event l.initial.kept l.read) k)
    × ((k : ℕ) → l.place ≤ k → get_or l.kept k false ≡ get_or l.initial.kept k false)
