use Rattle.std.proofs.Common.{◌≡◌, ◌++◌, length}
use Rattle.lib_judge.specs.Variants.{row_with}
use Rattle.lib_judge.proofs.variants.row_with.Given as goal

abbrev pub invariant-loop-rest : goal.invariant-loop-rest
invariant-loop-rest l = l.rows.items ++ row_with l.rest l.row ≡ row_with l.axis l.row

abbrev pub decreases-loop-rest : goal.decreases-loop-rest
decreases-loop-rest l = length l.rest
