-- The item at a place of a list.
use Rattle.std.proofs.Common.{◌≡◌, ℕ, zero, suc, ◌<◌, ◌≤◌, List, [], ◌∷◌, length, Some, None, slice_get, get_or, refl, sym, ap, arith}

pub there : {X : Type 0} (xs : List X) (place : ℕ) (x : X) → place < length xs → x ≡ get_or xs place x → slice_get xs place ≡ Some x
there [] place x h e = absurd (omega (arith, h))
there (y ∷ ys) zero x h e = ap (λ z. Some z) (sym e)
there (y ∷ ys) (suc k) x h e = there ys k x (omega (arith, h)) e

pub none_there : {X : Type 0} (xs : List X) (place : ℕ) → length xs ≤ place → slice_get xs place ≡ None
none_there [] place h = refl
none_there (y ∷ ys) zero h = absurd (omega (arith, h))
none_there (y ∷ ys) (suc k) h = none_there ys k (omega (arith, h))
