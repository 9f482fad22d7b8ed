-- What stands in lists.
use Rattle.std.proofs.Common.{◌≡◌, ℕ, zero, suc, ◌+◌, ◌<◌, ◌⊎◌, inl, inr, List, [], ◌∷◌, ◌++◌, map, length, Some, refl, sym, ap, ◌∙◌, subst, arith}
use Rattle.std.specs.Prelude.{slice_get}
use Rattle.std.specs.List.{flat_map, remove}
use Rattle.std.proofs.lemmas.Option.{same_Some}
use Rattle.net_core.proofs.Basics.{get_left, get_right, get_joined}

abbrev pub Has : {X : Type 0} → List X → X → Type 0
Has {X} xs x = (k : ℕ) × (slice_get xs k ≡ Some x)

pub has_left : {X : Type 0} (xs ys : List X) (x : X) → Has xs x → Has (xs ++ ys) x
has_left xs ys x (k, h) = (k, get_left xs ys k x h)

pub has_right : {X : Type 0} (xs ys : List X) (x : X) → Has ys x → Has (xs ++ ys) x
has_right xs ys x (k, h) = (length xs + k, get_right xs ys k ∙ h)

pub has_either : {X : Type 0} (xs ys : List X) (x : X) → Has (xs ++ ys) x → Has xs x ⊎ Has ys x
has_either xs ys x (k, h) = elim (get_joined xs ys k x h) [ inl g ↦ inl (k, g) | inr (j, e, g) ↦ inr (j, g) ]

pub has_none : {X : Type 0} (x : X) → Has [] x → ⊥
has_none x (k, h) = cc

pub has_first : {X : Type 0} (y x : X) (xs : List X) → Has (y ∷ xs) x → (y ≡ x) ⊎ Has xs x
has_first y x xs (zero, h) = inl (same_Some y x h)
has_first y x xs (suc k, h) = inr (k, h)

pub flat_has : {A B : Type 0} (f : A → List B) (xs : List A) (b : B) → Has (flat_map f xs) b → (a : A) × Has xs a × Has (f a) b
flat_has f [] b h = absurd (has_none b h)
flat_has f (x ∷ xs) b h = elim (has_either (f x) (flat_map f xs) b h) [
  | inl g ↦ (x, (0, refl), g)
  | inr g ↦ let (a, (k, at), there) = flat_has f xs b g in (a, (suc k, at), there)
]

pub has_flat : {A B : Type 0} (f : A → List B) (xs : List A) (a : A) (b : B) → Has xs a → Has (f a) b → Has (flat_map f xs) b
has_flat f [] a b (k, h) g = cc
has_flat f (x ∷ xs) a b (zero, h) g = has_left (f x) (flat_map f xs) b (subst (λ y. Has (f y) b) (sym (same_Some x a h)) g)
has_flat f (x ∷ xs) a b (suc k, h) g = has_right (f x) (flat_map f xs) b (has_flat f xs a b (k, h) g)

pub map_has : {A B : Type 0} (f : A → B) (xs : List A) (b : B) → Has (map f xs) b → (a : A) × Has xs a × (f a ≡ b)
map_has f [] b h = absurd (has_none b h)
map_has f (x ∷ xs) b (zero, h) = (x, (0, refl), same_Some (f x) b h)
map_has f (x ∷ xs) b (suc k, h) = let (a, (j, at), e) = map_has f xs b (k, h) in (a, (suc j, at), e)

pub has_map : {A B : Type 0} (f : A → B) (xs : List A) (a : A) → Has xs a → Has (map f xs) (f a)
has_map f [] a (k, h) = cc
has_map f (x ∷ xs) a (zero, h) = (0, ap (λ y. Some (f y)) (same_Some x a h))
has_map f (x ∷ xs) a (suc k, h) = let (j, at) = has_map f xs a (k, h) in (suc j, at)

-- what stands in a list with an item behind it
pub pushed_has : {X : Type 0} (xs : List X) (x y : X) → Has (xs ++ x ∷ []) y → Has xs y ⊎ (x ≡ y)
pushed_has xs x y h = elim (has_either xs (x ∷ []) y h) [
  | inl g ↦ inl g
  | inr g ↦ elim (has_first x y [] g) [ inl e ↦ inr e | inr f ↦ absurd (has_none y f) ]
]

pub last_at : {X : Type 0} (xs : List X) (x : X) → slice_get (xs ++ x ∷ []) (length xs) ≡ Some x
last_at [] x = refl
last_at (y ∷ xs) x = last_at xs x

-- lists without an item
pub removed : {X : Type 0} (xs : List X) (i j : ℕ) (y : X) → slice_get (remove xs i) j ≡ Some y → (k : ℕ) × (slice_get xs k ≡ Some y) × (k ≡ i → ⊥) × (k < i → j ≡ k) × (i < k → k ≡ suc j)
removed [] zero j y h = cc
removed [] (suc i) j y h = cc
removed (x ∷ xs) zero j y h = (suc j, h, λ e. absurd (omega (arith, e)), λ l. absurd (omega arith), λ l. refl)
removed (x ∷ xs) (suc i) zero y h = (0, h, λ e. absurd (omega (arith, e)), λ l. refl, λ l. absurd (omega arith))
removed (x ∷ xs) (suc i) (suc j) y h =
    let (k, at, apart, below, above) = removed xs i j y h in
    (suc k, at, λ e. apart (omega (arith, e)), λ l. ap suc (below (omega (arith, l))), λ l. ap suc (above (omega (arith, l))))

pub removed_has : {X : Type 0} (xs : List X) (i : ℕ) (y : X) → Has (remove xs i) y → Has xs y
removed_has xs i y (j, h) = let (k, at, apart, below, above) = removed xs i j y h in (k, at)
