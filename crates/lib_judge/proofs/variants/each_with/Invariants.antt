use Rattle.std.proofs.Common.{◌≡◌, ◌++◌, ◌∷◌, [], map}
use Rattle.lib_judge.proofs.variants.each_with.Given as goal

abbrev pub invariant-loop-row : goal.invariant-loop-row
invariant-loop-row l = l.longer.items ≡ map (λ row. row ++ l.choice ∷ []) l.yielded
