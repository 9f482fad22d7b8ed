use Rattle.std.proofs.Common.{◌≡◌, ℕ, ◌<◌, ◌≤◌, length, get_or, false}
use Rattle.net_core.specs.Values.{bit_at}
use Rattle.ram_step.specs.Ports.{slot_of}
use Rattle.ram_step.specs.Picks.{resolved}
use Rattle.ram_step.specs.Moments.{valuation}
use Rattle.ram_step.specs.Nexts.{tri_next}
use Rattle.ram_step.proofs.nexts.keep.Given as goal

abbrev pub invariant-loop-place : goal.invariant-loop-place
invariant-loop-place g l =
    (length l.kept ≡ length l.initial.kept)
    × ((k : ℕ) → k < l.place → get_or l.kept k false ≡ resolved l.key l.port.number k (tri_next (valuation l.values) (slot_of l.port) (bit_at l.initial.kept) k l.next))
    × ((k : ℕ) → l.place ≤ k → get_or l.kept k false ≡ get_or l.initial.kept k false)
