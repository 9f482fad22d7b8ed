use Rattle.std.proofs.Common.{ℕ, ◌<◌}
use Rattle.net_core.specs.Values.{bit_at}
use Rattle.cell_table.proofs.row.fill.Given as goal

abbrev pub invariant-loop-place : goal.invariant-loop-place
invariant-loop-place g l = (k : ℕ) → k < l.place → goal.F-post g l.bit k (bit_at l.out k)
