-- What tests say that are true, and what makes them true.
use Rattle.std.proofs.Common.{◌≡◌, ℕ, zero, suc, ◌≤◌, ◌<◌, Bool, true, false, not, nat_eq, nat_le, List, [], ◌∷◌, length, take, drop, Some, refl, subst, arith}
use Rattle.std.specs.Prelude.{slice_get}
use Rattle.std.specs.List.{list_all}
use Rattle.std.proofs.lemmas.Option.{none-some, same_Some}
use Rattle.net_core.specs.Values.{bit_at}
use Rattle.net_core.specs.Valid.{Each}
use Rattle.net_core.proofs.Basics.{and_left, and_right, both}

pub le_true : (a b : ℕ) → nat_le a b ≡ true → a ≤ b
le_true a b e = grind arith

pub eq_true : (a b : ℕ) → nat_eq a b ≡ true → a ≡ b
eq_true a b e = grind arith

pub not_is : (b : Bool) → not b ≡ true → b ≡ false
not_is true h = cc
not_is false h = refl

pub none_left : {X : Type 0} (xs : List X) → length xs ≡ 0 → xs ≡ []
none_left [] h = refl
none_left (x ∷ xs) h = absurd (omega (arith, h))

pub each_from : {X : Type 0} (test : X → Bool) (P : X → Type 0) → ((x : X) → test x ≡ true → P x) → (xs : List X) → list_all test xs ≡ true → Each xs P
each_from test P f [] e i x h = absurd (none-some x h)
each_from test P f (y ∷ ys) e zero x h = subst P (same_Some y x h) (f y (and_left (test y) (list_all test ys) e))
each_from test P f (y ∷ ys) e (suc i) x h = each_from test P f ys (and_right (test y) (list_all test ys) e) i x h

-- the items of the front of a list are those of the list
pub each_of_front : {X : Type 0} (P : X → Type 0) (n : ℕ) (xs : List X) → Each (take n xs) P → (k : ℕ) (x : X) → k < n → slice_get xs k ≡ Some x → P x
each_of_front P zero xs h k x lt g = absurd (omega (arith, lt))
each_of_front P (suc n) [] h k x lt g = absurd (none-some x g)
each_of_front P (suc n) (y ∷ ys) h zero x lt g = h 0 x g
each_of_front P (suc n) (y ∷ ys) h (suc k) x lt g = each_of_front P n ys (λ i z e. h (suc i) z e) k x (omega (arith, lt)) g

abbrev pub none_set : List Bool → Bool
none_set flags = list_all (λ f. not f) flags

pub none_at : (flags : List Bool) → none_set flags ≡ true → (k : ℕ) → bit_at flags k ≡ false
none_at [] h k = refl
none_at (f ∷ fs) h zero = not_is f (and_left (not f) (none_set fs) h)
none_at (f ∷ fs) h (suc k) = none_at fs (and_right (not f) (none_set fs) h) k

-- no flag from a place on
pub none_from : (own : ℕ) (flags : List Bool) → none_set (drop own flags) ≡ true → (k : ℕ) → own ≤ k → bit_at flags k ≡ false
none_from zero flags h k le = none_at flags h k
none_from (suc own) [] h k le = refl
none_from (suc own) (f ∷ fs) h zero le = absurd (omega (arith, le))
none_from (suc own) (f ∷ fs) h (suc k) le = none_from own fs h k (omega (arith, le))

-- the other way: where that holds, the tests are true
pub true_le : (a b : ℕ) → a ≤ b → nat_le a b ≡ true
true_le a b h = grind arith

pub true_eq : (a b : ℕ) → a ≡ b → nat_eq a b ≡ true
true_eq a b h = grind arith

pub is_not : (b : Bool) → b ≡ false → not b ≡ true
is_not true h = cc
is_not false h = refl

pub each_all : {X : Type 0} (test : X → Bool) (P : X → Type 0) → ((x : X) → P x → test x ≡ true) → (xs : List X) → Each xs P → list_all test xs ≡ true
each_all test P f [] h = refl
each_all test P f (x ∷ xs) h = both (test x) (list_all test xs) (f x (h 0 x refl)) (each_all test P f xs (λ i y e. h (suc i) y e))

pub front_of_each : {X : Type 0} (P : X → Type 0) (n : ℕ) (xs : List X) → ((k : ℕ) (x : X) → k < n → slice_get xs k ≡ Some x → P x) → Each (take n xs) P
front_of_each P zero xs h i x e = absurd (none-some x e)
front_of_each P (suc n) [] h i x e = absurd (none-some x e)
front_of_each P (suc n) (y ∷ ys) h zero x e = h 0 x (omega arith) e
front_of_each P (suc n) (y ∷ ys) h (suc i) x e = front_of_each P n ys (λ k z lt g. h (suc k) z (omega (arith, lt)) g) i x e

pub at_none : (flags : List Bool) → ((k : ℕ) → bit_at flags k ≡ false) → none_set flags ≡ true
at_none [] h = refl
at_none (f ∷ fs) h = both (not f) (none_set fs) (is_not f (h 0)) (at_none fs (λ k. h (suc k)))

pub from_none : (own : ℕ) (flags : List Bool) → ((k : ℕ) → own ≤ k → bit_at flags k ≡ false) → none_set (drop own flags) ≡ true
from_none zero flags h = at_none flags (λ k. h k (omega arith))
from_none (suc own) [] h = refl
from_none (suc own) (f ∷ fs) h = from_none own fs (λ k le. h (suc k) (omega (arith, le)))
