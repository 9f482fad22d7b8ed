-- Lists of bits that are filled place by place, and the front of a list.
use Rattle.std.proofs.Common.{◌≡◌, ◌≢◌, ℕ, zero, suc, ◌+◌, ◌<◌, Bool, false, List, [], ◌∷◌, ◌++◌, length, get_or, set, take, refl, sym, ap, ◌∙◌, ⊎_elim, arith}
use Rattle.std.proofs.lemmas.List.{get_or-set_same, get_or-set_other}
use Rattle.std.proofs.lemmas.Bool.{cases_eq}
use Rattle.net_core.specs.Values.{bit_at}

bit_at_is : (xs : List Bool) (k : ℕ) → bit_at xs k ≡ get_or xs k false
bit_at_is [] k = refl
bit_at_is (x ∷ xs) zero = refl
bit_at_is (x ∷ xs) (suc k) = bit_at_is xs k

below_other : (j at : ℕ) → j < at + 1 → j ≢ at → j < at
below_other j at h apart = omega arith

-- one more bit is put
pub filled_more : (f : ℕ → Bool) (xs : List Bool) (at : ℕ) (bit : Bool) → at < length xs → bit ≡ f at → ((j : ℕ) → j < at → bit_at xs j ≡ f j) → (j : ℕ) → j < at + 1 → bit_at (set xs at bit) j ≡ f j
filled_more f xs at bit inside e each j h =
    ⊎_elim
    (λ (same : j ≡ at). ap (bit_at (set xs at bit)) same ∙ bit_at_is (set xs at bit) at ∙ get_or-set_same xs at bit false inside ∙ e ∙ ap f (sym same))
    (λ apart. bit_at_is (set xs at bit) j ∙ get_or-set_other xs at j bit false apart ∙ sym (bit_at_is xs j) ∙ each j (below_other j at h apart))
    (cases_eq j at)

pub front : {X : Type 0} (n : ℕ) (xs ys : List X) → length xs ≡ n → take n (xs ++ ys) ≡ xs
front zero [] ys e = refl
front zero (x ∷ xs) ys e = cc
front (suc n) [] ys e = cc
front (suc n) (x ∷ xs) ys e = ap (λ l. x ∷ l) (front n xs ys (omega (arith, e)))
