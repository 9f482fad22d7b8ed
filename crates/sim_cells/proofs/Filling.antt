-- Lists that are filled place by place.
use Rattle.std.proofs.Common.{◌≡◌, ◌≢◌, ℕ, zero, suc, ◌+◌, ◌<◌, ◌≤◌, Bool, false, List, [], ◌∷◌, ◌++◌, map, length, get_or, set, refl, sym, ap, ◌∙◌, ⊎_elim, arith}
use Rattle.std.specs.List.{range_with_len}
use Rattle.std.proofs.lemmas.List.{get_or-set_same, get_or-set_other}
use Rattle.std.proofs.lemmas.List.FromFn.{get_or-map-range_with_len, map-range_with_len_more}
use Rattle.std.proofs.lemmas.Bool.{cases_eq}
use Rattle.net_core.specs.Values.{bit_at}

pub bit_at_is : (xs : List Bool) (k : ℕ) → bit_at xs k ≡ get_or xs k false
bit_at_is [] k = refl
bit_at_is (x ∷ xs) zero = refl
bit_at_is (x ∷ xs) (suc k) = bit_at_is xs k

pub bit_made : (f : ℕ → Bool) (n k : ℕ) → k < n → bit_at (map f (range_with_len 0 n)) k ≡ f k
bit_made f n k h = bit_at_is (map f (range_with_len 0 n)) k ∙ get_or-map-range_with_len f 0 n k k false h (omega arith)

below_other : (j at : ℕ) → j < at + 1 → j ≢ at → j < at
below_other j at h apart = omega arith

-- one more bit is put
pub put_more : (f : ℕ → Bool) (xs : List Bool) (at : ℕ) (bit : Bool) → at < length xs → bit ≡ f at → ((j : ℕ) → j < at → get_or xs j false ≡ f j) → (j : ℕ) → j < at + 1 → get_or (set xs at bit) j false ≡ f j
put_more f xs at bit inside e each j h =
    ⊎_elim
    (λ (same : j ≡ at). ap (λ i. get_or (set xs at bit) i false) same ∙ get_or-set_same xs at bit false inside ∙ e ∙ ap f (sym same))
    (λ apart. get_or-set_other xs at j bit false apart ∙ each j (below_other j at h apart))
    (cases_eq j at)

pub put_above : (old xs : List Bool) (at : ℕ) (bit : Bool) → ((j : ℕ) → at ≤ j → get_or xs j false ≡ get_or old j false) → (j : ℕ) → at + 1 ≤ j → get_or (set xs at bit) j false ≡ get_or old j false
put_above old xs at bit each j h = get_or-set_other xs at j bit false (λ e. absurd (omega arith)) ∙ each j (omega arith)

pub filled_more : (f : ℕ → Bool) (xs : List Bool) (at : ℕ) (bit : Bool) → at < length xs → bit ≡ f at → ((j : ℕ) → j < at → bit_at xs j ≡ f j) → (j : ℕ) → j < at + 1 → bit_at (set xs at bit) j ≡ f j
filled_more f xs at bit inside e each j h = bit_at_is (set xs at bit) j ∙ put_more f xs at bit inside e (λ i l. sym (bit_at_is xs i) ∙ each i l) j h

pub pushed_more : {X : Type 0} (f : ℕ → X) (xs new : List X) (x : X) (at : ℕ) → xs ≡ map f (range_with_len 0 at) → new ≡ xs ++ x ∷ [] → x ≡ f at → new ≡ map f (range_with_len 0 (at + 1))
pushed_more f xs new x at was pushed here =
    pushed ∙ ap (λ l. l ++ x ∷ []) was ∙ ap (λ z. map f (range_with_len 0 at) ++ z ∷ []) here ∙ sym (map-range_with_len_more f 0 at at (omega arith))
