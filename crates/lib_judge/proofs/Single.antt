-- An axis with one choice.
use Rattle.std.proofs.Common.{◌≡◌, ◌≤◌, ◌<◌, List, [], ◌∷◌, ◌++◌, length, map, get_or, refl, sym, ◌∙◌, ap, arith}
use Rattle.lib_core.specs.declared.library.Choice.{Choice}
use Rattle.lib_judge.specs.Variants.{extend}

pub extend_single : (c : Choice) (rows : List (List Choice)) → extend rows (c ∷ []) ≡ map (λ (row : List Choice). row ++ c ∷ []) rows
extend_single c [] = refl
extend_single c (row ∷ rows) = ap (λ (xs : List (List Choice)). (row ++ c ∷ []) ∷ xs) (extend_single c rows)

pub is_single : (axis : List Choice) (c : Choice) → 1 ≤ length axis → length axis < 2 → c ≡ get_or axis 0 c → axis ≡ c ∷ []
is_single [] c h k e = absurd (omega arith)
is_single (a ∷ []) c h k e = ap (λ (x : Choice). x ∷ []) (sym e)
is_single (a ∷ b ∷ more) c h k e = absurd (omega arith)

pub one_choice : (axis : List Choice) (c : Choice) (rows : List (List Choice)) → 1 ≤ length axis → length axis < 2 → c ≡ get_or axis 0 c → map (λ (row : List Choice). row ++ c ∷ []) rows ≡ extend rows axis
one_choice axis c rows h k e = sym (extend_single c rows) ∙ ap (λ (xs : List Choice). extend rows xs) (sym (is_single axis c h k e))
