-- Lists: what holds of each item, and how many items pass a test.
use Rattle.std.proofs.Common.{◌≡◌, ℕ, zero, suc, ◌+◌, ◌≤◌, Bool, true, cond, List, [], ◌∷◌, ◌++◌, map, length, Some, slice_get, refl, ap, ◌∙◌, subst, arith}
use Rattle.std.specs.List.{flat_map}
use Rattle.std.proofs.lemmas.Option.{same_Some}
use Rattle.rtlil_text.specs.Grammar.{All}
use Rattle.net_core.specs.Valid.{AreApart}

-- ---- each item

pub each_of : {X : Type 0} (P : X → Type 0) (xs : List X) → All P xs → (i : ℕ) (x : X) → slice_get xs i ≡ Some x → P x
each_of P [] a i x e = absurd cc
each_of P (y ∷ ys) a zero x e = subst P (same_Some y x e) a.0
each_of P (y ∷ ys) a (suc i) x e = each_of P ys a.1 i x e

pub all_of : {X : Type 0} (P : X → Type 0) (xs : List X) → ((i : ℕ) (x : X) → slice_get xs i ≡ Some x → P x) → All P xs
all_of P [] f = tt
all_of P (x ∷ xs) f = (f zero x refl, all_of P xs (λ i y e. f (suc i) y e))

pub all_map : {X Y : Type 0} (P : Y → Type 0) (f : X → Y) (xs : List X) → All (λ x. P (f x)) xs → All P (map f xs)
all_map P f [] a = tt
all_map P f (x ∷ xs) a = (a.0, all_map P f xs a.1)

pub all_back : {X Y : Type 0} (P : Y → Type 0) (f : X → Y) (xs : List X) → All P (map f xs) → All (λ x. P (f x)) xs
all_back P f [] a = tt
all_back P f (x ∷ xs) a = (a.0, all_back P f xs a.1)

pub all_left : {X : Type 0} (P : X → Type 0) (xs ys : List X) → All P (xs ++ ys) → All P xs
all_left P [] ys a = tt
all_left P (x ∷ xs) ys a = (a.0, all_left P xs ys a.1)

pub all_right : {X : Type 0} (P : X → Type 0) (xs ys : List X) → All P (xs ++ ys) → All P ys
all_right P [] ys a = a
all_right P (x ∷ xs) ys a = all_right P xs ys a.1

pub all_join : {X : Type 0} (P : X → Type 0) (xs ys : List X) → All P xs → All P ys → All P (xs ++ ys)
all_join P [] ys a b = b
all_join P (x ∷ xs) ys a b = (a.0, all_join P xs ys a.1 b)

pub all_then : {X : Type 0} (P Q : X → Type 0) (xs : List X) → ((x : X) → P x → Q x) → All P xs → All Q xs
all_then P Q [] f a = tt
all_then P Q (x ∷ xs) f a = (f x a.0, all_then P Q xs f a.1)

pub all_with : {X : Type 0} (P Q R : X → Type 0) (xs : List X) → ((x : X) → P x → Q x → R x) → All P xs → All Q xs → All R xs
all_with P Q R [] f a b = tt
all_with P Q R (x ∷ xs) f a b = (f x a.0 b.0, all_with P Q R xs f a.1 b.1)

pub all_flat : {X Y : Type 0} (P : Y → Type 0) (f : X → List Y) (xs : List X) → All (λ x. All P (f x)) xs → All P (flat_map f xs)
all_flat P f [] a = tt
all_flat P f (x ∷ xs) a = all_join P (f x) (flat_map f xs) a.0 (all_flat P f xs a.1)

pub length_map : {X Y : Type 0} (f : X → Y) (xs : List X) → length (map f xs) ≡ length xs
length_map f [] = refl
length_map f (x ∷ xs) = ap (λ k. suc k) (length_map f xs)

-- ---- counts

abbrev pub one_if : Bool → ℕ
one_if b = cond b 1 0

abbrev pub how_many : {X : Type 0} → (X → Bool) → List X → ℕ
how_many p [] = 0
how_many p (x ∷ xs) = cond (p x) 1 0 + how_many p xs

pub many_joined : {X : Type 0} (p : X → Bool) (xs ys : List X) → how_many p (xs ++ ys) ≡ how_many p xs + how_many p ys
many_joined p [] ys = omega arith
many_joined p (x ∷ xs) ys = let rest : how_many p (xs ++ ys) ≡ how_many p xs + how_many p ys = many_joined p xs ys in omega (arith, rest)

pub many_there : {X : Type 0} (p : X → Bool) (xs : List X) (k : ℕ) (x : X) → slice_get xs k ≡ Some x → p x ≡ true → 1 ≤ how_many p xs
many_there p [] k x e h = absurd cc
many_there p (y ∷ ys) zero x e h =
    let same : p y ≡ true = ap p (same_Some y x e) ∙ h in
    let one : ◌≡◌ {A = ℕ} (cond (p y) 1 0) 1 = ap (λ b. one_if b) same in
    omega (arith, one)
many_there p (y ∷ ys) (suc k) x e h = let rest : 1 ≤ how_many p ys = many_there p ys k x e h in omega (arith, rest)

-- where each item passes the test of itself, and no test is passed twice, no item stands twice
pub counted_apart : {X : Type 0} (same : X → X → Bool) (xs : List X) → ((x : X) → same x x ≡ true) → ((x : X) → how_many (same x) xs ≤ 1) → AreApart xs
counted_apart same [] own few i j x e f = absurd cc
counted_apart same (y ∷ ys) own few zero zero x e f = refl
counted_apart same (y ∷ ys) own few zero (suc j) x e f =
    let at : same x y ≡ true = ap (same x) (same_Some y x e) ∙ own x in
    let one : ◌≡◌ {A = ℕ} (cond (same x y) 1 0) 1 = ap (λ b. one_if b) at in
    let two : 1 ≤ how_many (same x) ys = many_there (same x) ys j x f (own x) in
    let most : cond (same x y) 1 0 + how_many (same x) ys ≤ 1 = few x in
    absurd (omega (arith, one, two, most))
counted_apart same (y ∷ ys) own few (suc i) zero x e f =
    let at : same x y ≡ true = ap (same x) (same_Some y x f) ∙ own x in
    let one : ◌≡◌ {A = ℕ} (cond (same x y) 1 0) 1 = ap (λ b. one_if b) at in
    let two : 1 ≤ how_many (same x) ys = many_there (same x) ys i x e (own x) in
    let most : cond (same x y) 1 0 + how_many (same x) ys ≤ 1 = few x in
    absurd (omega (arith, one, two, most))
counted_apart same (y ∷ ys) own few (suc i) (suc j) x e f =
    let fewer : (z : _) → how_many (same z) ys ≤ 1 = λ z. (let most : cond (same z y) 1 0 + how_many (same z) ys ≤ 1 = few z in omega (arith, most)) in
    ap (λ k. suc k) (counted_apart same ys own fewer i j x e f)
