use Rattle.std.proofs.Common.{◌≡◌, length, [], ◌∷◌}
use Rattle.lib_judge.specs.Variants.{rows_from}
use Rattle.lib_judge.proofs.variants.rows.Given as goal

abbrev pub invariant-loop-rest : goal.invariant-loop-rest
invariant-loop-rest l = rows_from l.rows.items l.rest ≡ rows_from ([] ∷ []) l.axes

abbrev pub decreases-loop-rest : goal.decreases-loop-rest
decreases-loop-rest l = length l.rest
