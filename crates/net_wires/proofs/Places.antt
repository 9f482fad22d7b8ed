-- Elements of lists by their places.
use Rattle.std.proofs.Common.{◌≡◌, ◌⊎◌, inl, inr, ℕ, zero, suc, ◌-◌, ◌≤◌, List, [], ◌∷◌, ◌++◌, length, get_or, Some, refl, sym, ap, ◌∙◌, arith}
use Rattle.std.specs.Prelude.{slice_get, slice_set, take, drop}
use Rattle.std.proofs.Math.Seq.{take-length}
use Rattle.std.proofs.lemmas.Option.{same_Some}

pub set_same : {X : Type 0} (xs : List X) (i : ℕ) (x y : X) → slice_get xs i ≡ Some x → slice_get (slice_set xs i y) i ≡ Some y
set_same [] i x y h = cc
set_same (a ∷ as') zero x y h = refl
set_same (a ∷ as') (suc i) x y h = set_same as' i x y h

pub set_other : {X : Type 0} (xs : List X) (i k : ℕ) (y : X) → (k ≡ i → ⊥) → slice_get (slice_set xs i y) k ≡ slice_get xs k
set_other [] i k y ne = refl
set_other (a ∷ as') zero zero y ne = absurd (ne refl)
set_other (a ∷ as') zero (suc k) y ne = refl
set_other (a ∷ as') (suc i) zero y ne = refl
set_other (a ∷ as') (suc i) (suc k) y ne = set_other as' i k y (λ e. ne (ap suc e))

pub get_more : {X : Type 0} (xs : List X) (new : X) (k : ℕ) (y : X) → slice_get (xs ++ new ∷ []) k ≡ Some y → (slice_get xs k ≡ Some y) ⊎ ((k ≡ length xs) × (new ≡ y))
get_more [] new zero y h = inr (refl, same_Some new y h)
get_more [] new (suc k) y h = cc
get_more (x ∷ xs) new zero y h = inl h
get_more (x ∷ xs) new (suc k) y h = elim (get_more xs new k y h) [ inl q ↦ inl q | inr (e, is) ↦ inr (ap suc e, is) ]

-- a list with an item is its first one and the others
pub front : {X : Type 0} (xs : List X) (x : X) → 1 ≤ length xs → x ≡ get_or xs 0 x → xs ≡ x ∷ take (length xs - 1) (drop 1 xs)
front [] x h e = absurd (omega (arith, h))
front (y ∷ ys) x h e =
    let k : length (y ∷ ys) - 1 ≡ length ys = omega arith in
    ap (λ (z : _). z ∷ ys) (sym e) ∙ ap (λ (zs : List _). x ∷ zs) (sym (ap (λ n. take n ys) k ∙ take-length ys))
