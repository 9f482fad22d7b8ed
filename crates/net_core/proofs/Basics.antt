-- Elements of lists by their places, Booleans, and what bits are under two valuations.
use Rattle.std.proofs.Common.{◌≡◌, ℕ, zero, suc, ◌+◌, ◌<◌, Bool, true, false, not, ◌&&◌, ◌⊎◌, inl, inr, List, [], ◌∷◌, ◌++◌, length, Some, refl, sym, ap, ◌∙◌, arith}
use Rattle.std.specs.Prelude.{slice_get}
use Rattle.std.specs.List.{list_all}
use Rattle.std.proofs.lemmas.Option.{same_Some}
use Rattle.net_core.specs.declared.bits.Bit.{Bit}
use Rattle.net_core.specs.declared.bits.Bit.TheVariants.{Zero as Low, One as High, Net}
use Rattle.net_core.specs.Values.{Valuation, value_of, values_of}
use Rattle.net_core.specs.Nodes.{HasNet}

pub and_left : (a b : Bool) → (a && b) ≡ true → a ≡ true
and_left true b h = refl
and_left false b h = h

pub and_right : (a b : Bool) → (a && b) ≡ true → b ≡ true
and_right true b h = h
and_right false b h = cc

pub both : (a b : Bool) → a ≡ true → b ≡ true → (a && b) ≡ true
both true b h g = g
both false b h g = h

pub not_true : (b : Bool) → not b ≡ true → b ≡ false
not_true true h = cc
not_true false h = refl

pub all_at : {X : Type 0} (p : X → Bool) (xs : List X) → list_all p xs ≡ true → (k : ℕ) (x : X) → slice_get xs k ≡ Some x → p x ≡ true
all_at p [] all k x h = cc
all_at p (y ∷ ys) all zero x h = ap p (sym (same_Some y x h)) ∙ and_left (p y) (list_all p ys) all
all_at p (y ∷ ys) all (suc k) x h = all_at p ys (and_right (p y) (list_all p ys) all) k x h

pub get_left : {X : Type 0} (xs ys : List X) (k : ℕ) (x : X) → slice_get xs k ≡ Some x → slice_get (xs ++ ys) k ≡ Some x
get_left [] ys k x h = cc
get_left (a ∷ xs) ys zero x h = h
get_left (a ∷ xs) ys (suc k) x h = get_left xs ys k x h

pub get_right : {X : Type 0} (xs ys : List X) (k : ℕ) → slice_get (xs ++ ys) (length xs + k) ≡ slice_get ys k
get_right [] ys k = let e : 0 + k ≡ k = omega arith in ap (slice_get ys) e
get_right (a ∷ xs) ys k = let e : suc (length xs) + k ≡ suc (length xs + k) = omega arith in ap (slice_get (a ∷ (xs ++ ys))) e ∙ get_right xs ys k

-- an element of two lists joined is of the first, or of the second
pub get_joined : {X : Type 0} (xs ys : List X) (k : ℕ) (x : X) → slice_get (xs ++ ys) k ≡ Some x → (slice_get xs k ≡ Some x) ⊎ ((j : ℕ) × (k ≡ length xs + j) × (slice_get ys j ≡ Some x))
get_joined [] ys k x h = inr (k, omega arith, h)
get_joined (a ∷ xs) ys zero x h = inl h
get_joined (a ∷ xs) ys (suc k) x h = elim (get_joined xs ys k x h) [ inl g ↦ inl g | inr (j, e, g) ↦ inr (j, omega (arith, e), g) ]

pub get_below : {X : Type 0} (xs : List X) (k : ℕ) (x : X) → slice_get xs k ≡ Some x → k < length xs
get_below [] k x h = cc
get_below (a ∷ xs) zero x h = omega arith
get_below (a ∷ xs) (suc k) x h = let i = get_below xs k x h in omega (arith, i)

pub get_within : {X : Type 0} (xs : List X) (k : ℕ) → k < length xs → (x : X) × (slice_get xs k ≡ Some x)
get_within [] k h = absurd (omega arith)
get_within (a ∷ xs) zero h = (a, refl)
get_within (a ∷ xs) (suc k) h = get_within xs k (omega arith)

pub has_left : (xs ys : List Bit) (n : ℕ) → HasNet xs n → HasNet (xs ++ ys) n
has_left xs ys n (k, h) = (k, get_left xs ys k (Net n) h)

pub has_right : (xs ys : List Bit) (n : ℕ) → HasNet ys n → HasNet (xs ++ ys) n
has_right xs ys n (k, h) = (length xs + k, get_right xs ys k ∙ h)

pub value_same : (v w : Valuation) (b : Bit) (bs : List Bit) → ((x : ℕ) → HasNet (b ∷ bs) x → v x ≡ w x) → value_of v b ≡ value_of w b
value_same v w Low bs h = refl
value_same v w High bs h = refl
value_same v w (Net n) bs h = h n (0, refl)

pub values_same : (v w : Valuation) (bits : List Bit) → ((x : ℕ) → HasNet bits x → v x ≡ w x) → values_of v bits ≡ values_of w bits
values_same v w [] h = refl
values_same v w (b ∷ bs) h =
    let one = value_same v w b bs h in
    let rest = values_same v w bs (λ x (k, g). h x (suc k, g)) in
    cc
