use Rattle.std.proofs.Common.{◌≡◌, drop, Some}
use Rattle.cell_consts.proofs.Joined.{joined}
use Rattle.cell_consts.proofs.numbers.number_of_bits.Given as goal

abbrev pub invariant-loop-place : goal.invariant-loop-place
invariant-loop-place l = joined (drop l.place l.bits) ≡ Some l.number
