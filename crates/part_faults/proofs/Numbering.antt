-- A table of the numbers of write ports that has none.
use Rattle.std.proofs.Common.{◌≡◌, ℕ, zero, suc, List, [], ◌∷◌, ◌++◌, refl, ap, ◌∙◌}
use Rattle.part_faults.specs.Ids.{ids_at}

nothing_more : (rows : List (List ℕ)) (k : ℕ) → ids_at (rows ++ [] ∷ []) k ≡ ids_at rows k
nothing_more [] zero = refl
nothing_more [] (suc k) = refl
nothing_more (r ∷ rs) zero = refl
nothing_more (r ∷ rs) (suc k) = nothing_more rs k

-- one empty row more
pub none_pushed : (old now : List (List ℕ)) (row : List ℕ) → now ≡ old ++ row ∷ [] → row ≡ [] → ((k : ℕ) → ids_at old k ≡ []) → (k : ℕ) → ids_at now k ≡ []
none_pushed old now row is_now empty none k = ap (λ rs. ids_at rs k) (is_now ∙ ap (λ r. old ++ r ∷ []) empty) ∙ nothing_more old k ∙ none k
