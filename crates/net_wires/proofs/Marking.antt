-- Marks of rings.
use Rattle.std.proofs.Common.{◌≡◌, ◌⊎◌, inl, inr, ℕ, zero, suc, ◌^◌, ◌<◌, Bool, true, false, List, [], ◌∷◌, length, replicate, Some, refl, sym, ap, subst, ◌∙◌, arith}
use Rattle.std.specs.Prelude.{slice_get, slice_set}
use Rattle.std.specs.List.{list_all}
use Rattle.std.proofs.lemmas.Bool.{cases_eq}
use Rattle.std.proofs.lemmas.List.{length-set, length-replicate}
use Rattle.std.proofs.lemmas.Option.{same_Some}
use Rattle.net_wires.specs.declared.link.Link.{Link}
use Rattle.net_wires.specs.declared.link.Link.TheVariants.{Zero, One, End, To}
use Rattle.net_wires.specs.Doubling.{mark, mark_all, power, Tied, Within}
use Rattle.net_wires.specs.Ties.{is_end, Marks, OnRing}
use Rattle.net_wires.proofs.Places.{set_same, set_other}
use Rattle.net_wires.proofs.Walks.{found_ring, ring_found, length_power}

pub length_mark : (ms : List Bool) (x : Link) → length (mark ms x) ≡ length ms
length_mark ms Zero = refl
length_mark ms One = refl
length_mark ms (End i) = refl
length_mark ms (To i) = length-set ms i true

pub length_marks : (ms : List Bool) (xs : List Link) → length (mark_all ms xs) ≡ length ms
length_marks ms [] = refl
length_marks ms (x ∷ xs) = length_marks (mark ms x) xs ∙ length_mark ms x

-- a mark after one more was there, or is the new one
mark_is : (ms : List Bool) (x : Link) (i : ℕ) → slice_get (mark ms x) i ≡ Some true → (slice_get ms i ≡ Some true) ⊎ (x ≡ To i)
mark_is ms Zero i h = inl h
mark_is ms One i h = inl h
mark_is ms (End j) i h = inl h
mark_is ms (To j) i h = elim (cases_eq j i) [ inl e ↦ inr (ap To e) | inr ne ↦ inl (sym (set_other ms j i true (λ e. ne (sym e))) ∙ h) ]

marks_are : (ms : List Bool) (xs : List Link) (i : ℕ) → slice_get (mark_all ms xs) i ≡ Some true → (slice_get ms i ≡ Some true) ⊎ ((k : ℕ) × (slice_get xs k ≡ Some (To i)))
marks_are ms [] i h = inl h
marks_are ms (x ∷ xs) i h =
    elim (marks_are (mark ms x) xs i h) [
      | inl was ↦ elim (mark_is ms x i was) [ inl old ↦ inl old | inr e ↦ inr (0, ap Some e) ]
      | inr (k, at) ↦ inr (suc k, at)
    ]

none_yet : (n i : ℕ) → slice_get (replicate n false) i ≡ Some true → ⊥
none_yet zero i h = cc
none_yet (suc n) zero h = let e = same_Some false true h in cc
none_yet (suc n) (suc i) h = none_yet n i h

-- a mark stays
mark_stays : (ms : List Bool) (x : Link) (i : ℕ) → slice_get ms i ≡ Some true → slice_get (mark ms x) i ≡ Some true
mark_stays ms Zero i h = h
mark_stays ms One i h = h
mark_stays ms (End j) i h = h
mark_stays ms (To j) i h = elim (cases_eq i j) [ inl e ↦ ap (slice_get (slice_set ms j true)) e ∙ set_same ms j true true (ap (slice_get ms) (sym e) ∙ h) | inr ne ↦ set_other ms j i true ne ∙ h ]

marks_stay : (ms : List Bool) (xs : List Link) (i : ℕ) → slice_get ms i ≡ Some true → slice_get (mark_all ms xs) i ≡ Some true
marks_stay ms [] i h = h
marks_stay ms (x ∷ xs) i h = marks_stay (mark ms x) xs i (mark_stays ms x i h)

marked_new : (ms : List Bool) (i : ℕ) → i < length ms → slice_get (slice_set ms i true) i ≡ Some true
marked_new [] i h = absurd (omega (arith, h))
marked_new (m ∷ ms) zero h = refl
marked_new (m ∷ ms) (suc i) h = marked_new ms i (omega (arith, h))

marks_all : (ms : List Bool) (xs : List Link) (i k : ℕ) → i < length ms → slice_get xs k ≡ Some (To i) → slice_get (mark_all ms xs) i ≡ Some true
marks_all ms [] i k h at = cc
marks_all ms (x ∷ xs) i zero h at = marks_stay (mark ms x) xs i (subst (λ (y : Link). slice_get (mark ms y) i ≡ Some true) (sym (same_Some x (To i) at)) (marked_new ms i h))
marks_all ms (x ∷ xs) i (suc k) h at = marks_all (mark ms x) xs i k (omega (arith, h, length_mark ms x)) at

ends_only : (xs : List Link) (k i : ℕ) → list_all is_end xs ≡ true → slice_get xs k ≡ Some (To i) → ⊥
ends_only [] k i h at = cc
ends_only (x ∷ xs) zero i h at = let e : list_all is_end (To i ∷ xs) ≡ true = subst (λ (y : Link). list_all is_end (y ∷ xs) ≡ true) (same_Some x (To i) at) h in cc
ends_only (Zero ∷ xs) (suc k) i h at = ends_only xs k i h at
ends_only (One ∷ xs) (suc k) i h at = ends_only xs k i h at
ends_only (End j ∷ xs) (suc k) i h at = ends_only xs k i h at
ends_only (To j ∷ xs) (suc k) i h at = cc

pub on_ring : (t r : List Link) (d : Tied t r) (k i : ℕ) → Within t → length t < 2 ^ 32 → slice_get r k ≡ Some (To i) → OnRing t i
on_ring t r d k i w short at =
    elim d.far [
      | inl ended ↦ absurd (ends_only r k i ended at)
      | inr e ↦
          let p : slice_get (power t 32) k ≡ Some (To i) = ap (λ n. slice_get (power t n) k) (sym e) ∙ ap (λ (xs : List Link). slice_get xs k) (sym d.is) ∙ at in
          found_ring t 32 k i w (omega (arith, short)) p
    ]

pub marks_right : (t r : List Link) → Tied t r → Within t → length t < 2 ^ 32 → Marks t (mark_all (replicate (length r) false) r)
marks_right t r d w short =
    let long : length r ≡ length t = ap length d.is ∙ length_power t d.rounds in
    record {
      long = length_marks (replicate (length r) false) r ∙ length-replicate (length r) false ∙ long;
      sound = λ i h. elim (marks_are (replicate (length r) false) r i h) [ inl was ↦ absurd (none_yet (length r) i was) | inr (k, at) ↦ on_ring t r d k i w short at ];
      whole = λ i h ring.
          let f = ring_found t d.rounds i w h ring in
          marks_all (replicate (length r) false) r i f.0 (omega (arith, h, long, length-replicate (length r) false)) (ap (λ (xs : List Link). slice_get xs f.0) d.is ∙ f.1);
    }
