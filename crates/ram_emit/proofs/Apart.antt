-- Lists in which no item stands at two places.
use Rattle.std.proofs.Common.{◌≡◌, ℕ, zero, suc, ◌+◌, ◌<◌, ◌⊎◌, inl, inr, List, [], ◌∷◌, ◌++◌, map, length, Some, refl, sym, ap, ◌∙◌, arith}
use Rattle.std.specs.Prelude.{slice_get}
use Rattle.std.specs.List.{range_with_len, remove}
use Rattle.std.proofs.lemmas.Option.{same_Some}
use Rattle.net_core.specs.Valid.{AreApart}
use Rattle.net_core.proofs.Basics.{get_left, get_right}
use Rattle.ram_emit.proofs.Placed.{Has, has_either, removed}

tail_apart : {X : Type 0} (x : X) (xs : List X) → AreApart (x ∷ xs) → AreApart xs
tail_apart x xs apart a b y h g = let e = apart (suc a) (suc b) y h g in omega (arith, e)

-- ---- one item more

without_it : {X : Type 0} (xs ys : List X) (n y : X) → Has (xs ++ (n ∷ ys)) y → (n ≡ y) ⊎ Has (xs ++ ys) y
without_it [] ys n y (zero, h) = inl (same_Some n y h)
without_it [] ys n y (suc k, h) = inr (k, h)
without_it (x ∷ xs) ys n y (zero, h) = inr (0, h)
without_it (x ∷ xs) ys n y (suc k, h) = elim (without_it xs ys n y (k, h)) [ inl e ↦ inl e | inr (j, g) ↦ inr (suc j, g) ]

first_apart : {X : Type 0} (x : X) (xs : List X) (b : ℕ) (y : X) → AreApart (x ∷ xs) → x ≡ y → slice_get xs b ≡ Some y → ⊥
first_apart x xs b y apart e h = let q = apart 0 (suc b) x refl (h ∙ ap Some (sym e)) in omega (arith, q)

pub insert_apart : {X : Type 0} (xs ys : List X) (n : X) → AreApart (xs ++ ys) → (Has (xs ++ ys) n → ⊥) → AreApart (xs ++ (n ∷ ys))
insert_apart [] ys n apart fresh zero zero y h g = refl
insert_apart [] ys n apart fresh zero (suc b) y h g = absurd (fresh (b, g ∙ ap Some (sym (same_Some n y h))))
insert_apart [] ys n apart fresh (suc a) zero y h g = absurd (fresh (a, h ∙ ap Some (sym (same_Some n y g))))
insert_apart [] ys n apart fresh (suc a) (suc b) y h g = ap suc (apart a b y h g)
insert_apart (x ∷ xs) ys n apart fresh zero zero y h g = refl
insert_apart (x ∷ xs) ys n apart fresh zero (suc b) y h g =
    let e : x ≡ y = same_Some x y h in
    absurd (elim (without_it xs ys n y (b, g)) [ inl q ↦ fresh (0, ap Some (e ∙ sym q)) | inr (k, at) ↦ first_apart x (xs ++ ys) k y apart e at ])
insert_apart (x ∷ xs) ys n apart fresh (suc a) zero y h g =
    let e : x ≡ y = same_Some x y g in
    absurd (elim (without_it xs ys n y (a, h)) [ inl q ↦ fresh (0, ap Some (e ∙ sym q)) | inr (k, at) ↦ first_apart x (xs ++ ys) k y apart e at ])
insert_apart (x ∷ xs) ys n apart fresh (suc a) (suc b) y h g = ap suc (insert_apart xs ys n (tail_apart x (xs ++ ys) apart) (λ (k, at). fresh (suc k, at)) a b y h g)

-- ---- one item less

pub either_side : (k i : ℕ) → (k ≡ i → ⊥) → (k < i) ⊎ (i < k)
either_side zero zero h = absurd (h refl)
either_side zero (suc i) h = inl (omega arith)
either_side (suc k) zero h = inr (omega arith)
either_side (suc k) (suc i) h = elim (either_side k i (λ e. h (ap suc e))) [ inl l ↦ inl (omega (arith, l)) | inr l ↦ inr (omega (arith, l)) ]

mapped_at : {A B : Type 0} (f : A → B) (xs : List A) (k : ℕ) (b : B) → slice_get (map f xs) k ≡ Some b → (a : A) × (slice_get xs k ≡ Some a) × (f a ≡ b)
mapped_at f [] k b h = cc
mapped_at f (x ∷ xs) zero b h = (x, refl, same_Some (f x) b h)
mapped_at f (x ∷ xs) (suc k) b h = mapped_at f xs k b h

at_mapped : {A B : Type 0} (f : A → B) (xs : List A) (k : ℕ) (a : A) (b : B) → slice_get xs k ≡ Some a → f a ≡ b → slice_get (map f xs) k ≡ Some b
at_mapped f [] k a b h e = cc
at_mapped f (x ∷ xs) zero a b h e = ap Some (ap f (same_Some x a h) ∙ e)
at_mapped f (x ∷ xs) (suc k) a b h e = at_mapped f xs k a b h e

pub removed_apart : {A B : Type 0} (f : A → B) (xs : List A) (i : ℕ) → AreApart (map f xs) → AreApart (map f (remove xs i))
removed_apart f xs i apart a b n h g =
    let (y, ya, yn) = mapped_at f (remove xs i) a n h in
    let (z, za, zn) = mapped_at f (remove xs i) b n g in
    let (k, kat, kapart, kbelow, kabove) = removed xs i a y ya in
    let (l, lat, lapart, lbelow, labove) = removed xs i b z za in
    let same : k ≡ l = apart k l n (at_mapped f xs k y n kat yn) (at_mapped f xs l z n lat zn) in
    elim (either_side k i kapart) [
      | inl lt ↦ kbelow lt ∙ same ∙ sym (lbelow (omega (arith, lt, same)))
      | inr lt ↦ let p = kabove lt in let q = labove (omega (arith, lt, same)) in omega (arith, p, q, same)
    ]

-- ---- two lists

pub apart_join : {X : Type 0} (xs ys : List X) → AreApart xs → AreApart ys → ((n : X) → Has xs n → Has ys n → ⊥) → AreApart (xs ++ ys)
apart_join [] ys a b none k l y h g = b k l y h g
apart_join (x ∷ xs) ys a b none zero zero y h g = refl
apart_join (x ∷ xs) ys a b none zero (suc k) y h g =
    let e : x ≡ y = same_Some x y h in
    absurd (elim (has_either xs ys y (k, g)) [ inl (j, at) ↦ first_apart x xs j y a e at | inr (j, at) ↦ none y (0, ap Some e) (j, at) ])
apart_join (x ∷ xs) ys a b none (suc k) zero y h g =
    let e : x ≡ y = same_Some x y g in
    absurd (elim (has_either xs ys y (k, h)) [ inl (j, at) ↦ first_apart x xs j y a e at | inr (j, at) ↦ none y (0, ap Some e) (j, at) ])
apart_join (x ∷ xs) ys a b none (suc k) (suc l) y h g = ap suc (apart_join xs ys (tail_apart x xs a) b (λ n (j, at) q. none n (suc j, at) q) k l y h g)

pub range_at : (a count k n : ℕ) → slice_get (range_with_len a count) k ≡ Some n → n ≡ a + k
range_at a zero k n h = cc
range_at a (suc count) zero n h = let e : a ≡ n = same_Some a n h in omega (arith, e)
range_at a (suc count) (suc k) n h = let r = range_at (a + 1) count k n h in omega (arith, r)

pub range_apart : (a count : ℕ) → AreApart (range_with_len a count)
range_apart a count k l n h g = omega (arith, range_at a count k n h, range_at a count l n g)

pub left_apart : {X : Type 0} (xs ys : List X) → AreApart (xs ++ ys) → AreApart xs
left_apart xs ys apart a b y h g = apart a b y (get_left xs ys a y h) (get_left xs ys b y g)

pub right_apart : {X : Type 0} (xs ys : List X) → AreApart (xs ++ ys) → AreApart ys
right_apart xs ys apart a b y h g = let e = apart (length xs + a) (length xs + b) y (get_right xs ys a ∙ h) (get_right xs ys b ∙ g) in omega (arith, e)

pub cross_apart : {X : Type 0} (xs ys : List X) (y : X) → AreApart (xs ++ ys) → Has xs y → Has ys y → ⊥
cross_apart [] ys y apart (k, h) g = cc
cross_apart (x ∷ xs) ys y apart (zero, h) (l, g) = first_apart x (xs ++ ys) (length xs + l) y apart (same_Some x y h) (get_right xs ys l ∙ g)
cross_apart (x ∷ xs) ys y apart (suc k, h) g = cross_apart xs ys y (tail_apart x (xs ++ ys) apart) (k, h) g
