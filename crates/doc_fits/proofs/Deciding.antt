-- Tests of lists that decide what holds of all items.
use Rattle.std.proofs.Common.{◌≡◌, ℕ, Bool, true, false, List, [], ◌∷◌, ◌++◌, map, refl}
use Rattle.std.specs.Prelude.{not, ◌&&◌}
use Rattle.std.specs.Bool.{Decides}
use Rattle.std.specs.List.{flat_map, list_all}
use Rattle.std.proofs.lemmas.Bool.{not-true, not_from_false}
use Rattle.std.proofs.lemmas.Bool.Decides.{Decides-and, Decides-like}
use Rattle.rtlil_text.specs.Grammar.{All, has, AreNew}
use Rattle.doc_fits.specs.Tests.{are_new}

pub join : {X : Type 0} (P : X → Type 0) (xs ys : List X) → All P xs → All P ys → All P (xs ++ ys)
join P [] ys p q = q
join P (x ∷ xs) ys p q = (p.0, join P xs ys p.1 q)

pub split : {X : Type 0} (P : X → Type 0) (xs ys : List X) → All P (xs ++ ys) → All P xs × All P ys
split P [] ys p = (tt, p)
split P (x ∷ xs) ys p = let r = split P xs ys p.1 in ((p.0, r.0), r.1)

pub decides_append : {X : Type 0} (P : X → Type 0) (a b : Bool) (xs ys : List X) → Decides a (All P xs) → Decides b (All P ys) → Decides (a && b) (All P (xs ++ ys))
decides_append P a b xs ys p q = Decides-like (a && b) (λ r. join P xs ys r.0 r.1) (split P xs ys) (Decides-and a b p q)

pub decides_one : {X : Type 0} (P : X → Type 0) (b : Bool) (x : X) → Decides b (P x) → Decides b (All P (x ∷ []))
decides_one P b x p = Decides-like b (λ r. (r, tt)) (λ r. r.0) p

pub decides_map : {X Y : Type 0} (P : Y → Type 0) (f : X → Bool) (g : X → Y) → ((x : X) → Decides (f x) (P (g x))) → (xs : List X) → Decides (list_all f xs) (All P (map g xs))
decides_map P f g each [] = (λ e. tt, λ p. refl)
decides_map P f g each (x ∷ xs) = Decides-and (f x) (list_all f xs) (each x) (decides_map P f g each xs)

-- of what each item is made of, and of the item itself
pub decides_flat : {X Y : Type 0} (P : Y → Type 0) (Q : X → Type 0) (f : X → Bool) (g : X → List Y) → ((x : X) → Decides (f x) (All P (g x) × Q x)) → (xs : List X) → Decides (list_all f xs) (All P (flat_map g xs) × All Q xs)
decides_flat P Q f g each [] = (λ e. (tt, tt), λ p. refl)
decides_flat P Q f g each (x ∷ xs) =
    Decides-like (f x && list_all f xs)
    (λ r. (join P (g x) (flat_map g xs) r.0.0 r.1.0, (r.0.1, r.1.1)))
    (λ r. let s = split P (g x) (flat_map g xs) r.0 in ((s.0, r.1.0), (s.1, r.1.1)))
    (Decides-and (f x) (list_all f xs) (each x) (decides_flat P Q f g each xs))

pub decides_new : (t ns : List (List ℕ)) → Decides (are_new t ns) (AreNew t ns)
unfolding are_new
decides_new t [] = (λ e. tt, λ p. refl)
decides_new t (n ∷ ns) = Decides-and (not (has t n)) (are_new (t ++ n ∷ []) ns) (not-true (has t n), not_from_false (has t n)) (decides_new (t ++ n ∷ []) ns)
