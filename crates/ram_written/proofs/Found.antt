-- Parameters that are found by their names, where no two have one name.
use Rattle.std.proofs.Common.{◌≡◌, ℕ, zero, suc, Bool, true, false, cond, List, [], ◌∷◌, ◌++◌, map, Option, Some, refl, ap, arith}
use Rattle.std.specs.Prelude.{slice_get}
use Rattle.std.specs.Str.{bytes_eq}
use Rattle.std.proofs.lemmas.Option.{same_Some}
use Rattle.std.proofs.lemmas.Slice.Eq.{bytes_eq-Decides}
use Rattle.net_core.specs.declared.mems.Attr.{Attr}
use Rattle.net_core.specs.Valid.{AreApart}
use Rattle.cell_consts.specs.Params.{named}

-- a parameter stands somewhere
abbrev pub Stands : {X : Type 0} → List X → X → Type 0
Stands {X} xs x = (i : ℕ) × (slice_get xs i ≡ Some x)

-- all of these stand among those
abbrev pub Within : {X : Type 0} → List X → List X → Type 0
Within {X} xs ys = (x : X) → Stands xs x → Stands ys x

pub first_stands : {X : Type 0} (x : X) (xs : List X) → Stands (x ∷ xs) x
first_stands x xs = (0, refl)

left_at : {X : Type 0} (xs ys : List X) (i : ℕ) (x : X) → slice_get xs i ≡ Some x → slice_get (xs ++ ys) i ≡ Some x
left_at [] ys i x e = absurd (cc)
left_at (y ∷ xs) ys zero x e = e
left_at (y ∷ xs) ys (suc i) x e = left_at xs ys i x e

pub in_left : {X : Type 0} (xs ys : List X) → Within xs (xs ++ ys)
in_left xs ys x s = (s.0, left_at xs ys s.0 x s.1)

pub in_right : {X : Type 0} (xs ys : List X) → Within ys (xs ++ ys)
in_right [] ys x s = s
in_right (y ∷ xs) ys x s = let more = in_right xs ys x s in (suc more.0, more.1)

pub within : {X : Type 0} (xs ys zs : List X) → Within xs ys → Within ys zs → Within xs zs
within xs ys zs f g x s = g x (f x s)

-- ---- by names

abbrev pub names_of : List Attr → List (List ℕ)
names_of params = map (λ (p : Attr). p.name) params

name_at : (params : List Attr) (i : ℕ) (a : Attr) → slice_get params i ≡ Some a → slice_get (names_of params) i ≡ Some a.name
name_at [] i a e = absurd (cc)
name_at (p ∷ ps) zero a e = ap (λ (q : Attr). Some q.name) (same_Some p a e)
name_at (p ∷ ps) (suc i) a e = name_at ps i a e

apart_tail : {X : Type 0} (x : X) (xs : List X) → AreApart (x ∷ xs) → AreApart xs
apart_tail x xs h i j y e f = let s : suc i ≡ suc j = h (suc i) (suc j) y e f in omega (arith, s)

by_test : (p a : Attr) (rest : Option Attr) (t : Bool) → (t ≡ true → p ≡ a) → (t ≡ false → rest ≡ Some a) → cond t (Some p) rest ≡ Some a
by_test p a rest true f g = ap (λ q. Some q) (f refl)
by_test p a rest false f g = g refl

here_is : (p a : Attr) (rest : Option Attr) (t : Bool) → t ≡ true → p ≡ a → cond t (Some p) rest ≡ Some a
here_is p a rest true e f = ap (λ q. Some q) f
here_is p a rest false e f = absurd (cc)

found_at : (params : List Attr) (a : Attr) → AreApart (names_of params) → (i : ℕ) → slice_get params i ≡ Some a → named params a.name ≡ Some a
found_at [] a h i e = absurd (cc)
found_at (p ∷ ps) a h zero e =
    let same = same_Some p a e in
    here_is p a (named ps a.name) (bytes_eq p.name a.name) ((bytes_eq-Decides p.name a.name).1 (ap (λ (q : Attr). q.name) same)) same
found_at (p ∷ ps) a h (suc i) e =
    by_test p a (named ps a.name) (bytes_eq p.name a.name)
    (λ t. let same = (bytes_eq-Decides p.name a.name).0 t in let n : 0 ≡ suc i = h 0 (suc i) a.name (ap (λ m. Some m) same) (name_at ps i a e) in absurd (omega (arith, n)))
    (λ t. found_at ps a (apart_tail p.name (names_of ps) h) i e)

pub found : (params : List Attr) (a : Attr) → AreApart (names_of params) → Stands params a → named params a.name ≡ Some a
found params a h s = found_at params a h s.0 s.1
