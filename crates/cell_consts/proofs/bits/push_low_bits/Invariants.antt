use Rattle.std.proofs.Common.{◌≡◌, ◌++◌}
use Rattle.cell_consts.specs.Consts.{low_bits}
use Rattle.cell_consts.proofs.bits.push_low_bits.Given as goal

abbrev pub invariant-loop-left : goal.invariant-loop-left
invariant-loop-left l = l.bits.items ++ low_bits l.left l.high ≡ l.initial.bits.items ++ low_bits l.width l.number

abbrev pub decreases-loop-left : goal.decreases-loop-left
decreases-loop-left l = l.left
