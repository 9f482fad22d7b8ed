use Rattle.std.proofs.Common.{◌≡◌, ℕ, ◌<◌}
use Rattle.net_core.specs.Values.{bit_at}
use Rattle.ram_step.specs.Moments.{valuation}
use Rattle.sim_cells.specs.Memories.{picked_bit, shown_tri}
use Rattle.sim_cells.proofs.mems.show_read.Given as goal

abbrev pub invariant-loop-place : goal.invariant-loop-place
invariant-loop-place l = (k : ℕ) → k < l.place → bit_at l.out k ≡ picked_bit l.key l.port (shown_tri l.words l.mem (valuation l.values) l.kept l.read) k
