-- A stable sort by a number gives what an insertion of each element before those with no less gives.
use Rattle.std.proofs.Common.{◌≡◌, ℕ, suc, ◌<◌, ◌≤◌, Bool, true, false, cond, List, [], ◌∷◌, map, length, get_or, refl, sym, ap, ◌∙◌, arith, eqb, leb}
use Rattle.std.specs.List.{filter}
use Rattle.std.specs.List.Sorted.{IsNonDecreasingBy, IsSortedByKey, IsStableByKey, ties}
use Rattle.std.specs.Ordering.{nat_cmp, is_lt}
use Rattle.std.proofs.lemmas.List.Sorted.{IsNonDecreasingBy-from_sort}
use Rattle.std.proofs.lemmas.Bool.{eqb-true, eq-eqb, ne_eqb, leb-true, leb-false}
use Rattle.net_core.specs.declared.modules.Wire.{Wire}
use Rattle.net_core.specs.Ports.{insert_port, by_port}
use denote.Ref.{Bor}

module _ {X : Type 0} (key : X → ℕ) where
  abbrev pub tie : X → X → Bool
  tie x y = eqb (key x) (key y)

  abbrev pub put : X → List X → List X
  put x [] = x ∷ []
  put x (y ∷ ys) = cond (leb (key x) (key y)) (x ∷ y ∷ ys) (y ∷ put x ys)

  abbrev pub sort_in : List X → List X
  sort_in [] = []
  sort_in (x ∷ xs) = put x (sort_in xs)

  abbrev pub AllAbove : ℕ → List X → Type 0
  AllAbove k [] = Unit {0}
  AllAbove k (y ∷ ys) = (k ≤ key y) × AllAbove k ys

  abbrev pub Up : List X → Type 0
  Up [] = Unit {0}
  Up (x ∷ xs) = AllAbove (key x) xs × Up xs

  above_lower : (j k : ℕ) (ys : List X) → j ≤ k → AllAbove k ys → AllAbove j ys
  above_lower j k [] le a = tt
  above_lower j k (y ∷ ys) le a = (omega (arith, a.0), above_lower j k ys le a.1)

  above_put : (k : ℕ) (x : X) (ys : List X) → k ≤ key x → AllAbove k ys → AllAbove k (put x ys)
  above_put k x [] le a = (le, tt)
  above_put k x (y ∷ ys) le a =
      let P : Bool → Type 0 = λ b. AllAbove k (cond b (x ∷ y ∷ ys) (y ∷ put x ys)) in
      elim (leb (key x) (key y)) as P [ true ↦ (le, a) | false ↦ (a.0, above_put k x ys le a.1) ]

  up_put : (x : X) (ys : List X) → Up ys → Up (put x ys)
  up_put x [] u = (tt, tt)
  up_put x (y ∷ ys) u =
      let P : Bool → Type 0 = λ b. leb (key x) (key y) ≡ b → Up (cond b (x ∷ y ∷ ys) (y ∷ put x ys)) in
      let f : P (leb (key x) (key y)) = elim (leb (key x) (key y)) as P [
        | true ↦ λ e. let le = leb-true (key x) (key y) e in ((le, above_lower (key x) (key y) ys le u.0), u)
        | false ↦ λ e. let lt = leb-false (key x) (key y) e in (above_put (key y) x ys (omega (arith, lt)) u.0, up_put x ys u.1)
      ] in
      f refl

  pub up_sort : (xs : List X) → Up (sort_in xs)
  up_sort [] = tt
  up_sort (x ∷ xs) = up_put x (sort_in xs) (up_sort xs)

  one_passes : (p q : Bool) (x y : X) (f : List X) → (p ≡ true → q ≡ true → ⊥) → cond q (y ∷ cond p (x ∷ f) f) (cond p (x ∷ f) f) ≡ cond p (x ∷ cond q (y ∷ f) f) (cond q (y ∷ f) f)
  one_passes true true x y f ne = absurd (ne refl refl)
  one_passes true false x y f ne = refl
  one_passes false true x y f ne = refl
  one_passes false false x y f ne = refl

  filter_put : (a x : X) (ys : List X) → filter (tie a) (put x ys) ≡ filter (tie a) (x ∷ ys)
  filter_put a x [] = refl
  filter_put a x (y ∷ ys) =
      let P : Bool → Type 0 = λ b. leb (key x) (key y) ≡ b → filter (tie a) (cond b (x ∷ y ∷ ys) (y ∷ put x ys)) ≡ filter (tie a) (x ∷ y ∷ ys) in
      let f : P (leb (key x) (key y)) = elim (leb (key x) (key y)) as P [
        | true ↦ λ e. refl
        | false ↦ λ e.
            let lt = leb-false (key x) (key y) e in
            ap (λ g. cond (tie a y) (y ∷ g) g) (filter_put a x ys) ∙ one_passes (tie a x) (tie a y) x y (filter (tie a) ys) (λ px qy. let ex = eqb-true (key a) (key x) px in let ey = eqb-true (key a) (key y) qy in omega (arith, ex, ey, lt))
      ] in
      f refl

  filter_sort : (a : X) (xs : List X) → filter (tie a) (sort_in xs) ≡ filter (tie a) xs
  filter_sort a [] = refl
  filter_sort a (x ∷ xs) = filter_put a x (sort_in xs) ∙ ap (λ g. cond (tie a x) (x ∷ g) g) (filter_sort a xs)

  -- nothing above passes
  none_ties : (x : X) (k : ℕ) (ys : List X) → key x < k → AllAbove k ys → filter (tie x) ys ≡ []
  none_ties x k [] lt a = refl
  none_ties x k (y ∷ ys) lt a =
      let no : tie x y ≡ false = ne_eqb (key x) (key y) (λ e. omega (arith, a.0, e, lt)) in
      ap (λ b. cond b (y ∷ filter (tie x) ys) (filter (tie x) ys)) no ∙ none_ties x k ys lt a.1

  ties_itself : (x : X) (xs : List X) → filter (tie x) (x ∷ xs) ≡ x ∷ filter (tie x) xs
  ties_itself x xs = ap (λ b. cond b (x ∷ filter (tie x) xs) (filter (tie x) xs)) (eq-eqb (key x) (key x) refl)

  tail_same : (b : Bool) (y z : X) (f g : List X) → y ≡ z → cond b (y ∷ f) f ≡ cond b (z ∷ g) g → f ≡ g
  tail_same true y z f g e h = cc
  tail_same false y z f g e h = h

  cons_empty : (x : X) (xs : List X) → x ∷ xs ≡ [] → ⊥
  cons_empty x xs e = cc

  head_same : (x y : X) (xs ys : List X) → x ∷ xs ≡ y ∷ ys → x ≡ y
  head_same x y xs ys e = cc

  abbrev pub SameTies : List X → List X → Type 0
  SameTies ys zs = (x : X) → filter (tie x) ys ≡ filter (tie x) zs

  -- lists in order are the same where elements that tie stand in them alike
  only_one : (ys zs : List X) → Up ys → Up zs → SameTies ys zs → ys ≡ zs
  only_one [] [] u v same = refl
  only_one [] (z ∷ zs) u v same = absurd (cons_empty z (filter (tie z) zs) (sym (ties_itself z zs) ∙ sym (same z)))
  only_one (y ∷ ys) [] u v same = absurd (cons_empty y (filter (tie y) ys) (sym (ties_itself y ys) ∙ same y))
  only_one (y ∷ ys) (z ∷ zs) u v same =
      let not_less : key y < key z → ⊥ = λ lt. cons_empty y (filter (tie y) ys) (sym (ties_itself y ys) ∙ same y ∙ none_ties y (key z) (z ∷ zs) lt (omega arith, v.0)) in
      let not_more : key z < key y → ⊥ = λ lt. cons_empty z (filter (tie z) zs) (sym (ties_itself z zs) ∙ sym (same z) ∙ none_ties z (key y) (y ∷ ys) lt (omega arith, u.0)) in
      let keys : key y ≡ key z = omega (arith, not_less, not_more) in
      let first : tie y z ≡ true = eq-eqb (key y) (key z) keys in
      let both : y ∷ filter (tie y) ys ≡ z ∷ filter (tie y) zs = sym (ties_itself y ys) ∙ same y ∙ ap (λ b. cond b (z ∷ filter (tie y) zs) (filter (tie y) zs)) first in
      let head : y ≡ z = head_same y z (filter (tie y) ys) (filter (tie y) zs) both in
      let rest : ys ≡ zs = only_one ys zs u.1 v.1 (λ x. tail_same (tie x y) y z (filter (tie x) ys) (filter (tie x) zs) head (same x ∙ ap (λ w. cond (tie x w) (z ∷ filter (tie x) zs) (filter (tie x) zs)) (sym head))) in
      cc

  above_of : (k : ℕ) (ys : List X) (d : X) → ((j : ℕ) → j < length ys → k ≤ key (get_or ys j d)) → AllAbove k ys
  above_of k [] d h = tt
  above_of k (y ∷ ys) d h = (h 0 (omega arith), above_of k ys d (λ j lt. h (suc j) (omega arith)))

  up_of : (ys : List X) → IsNonDecreasingBy key ys → Up ys
  up_of [] h = tt
  up_of (y ∷ ys) h = (above_of (key y) ys y (λ j lt. h 0 (suc j) y (omega arith) (omega arith)), up_of ys (λ i j d le lt. h (suc i) (suc j) d (omega arith) (omega arith)))

  ties_are : (x y : X) → ties (λ a b. is_lt (nat_cmp (key a) (key b))) x y ≡ tie x y
  ties_are x y = grind arith

  filter_same : (p q : X → Bool) → ((y : X) → p y ≡ q y) → (xs : List X) → filter p xs ≡ filter q xs
  filter_same p q h [] = refl
  filter_same p q h (x ∷ xs) = let one = h x in let rest = filter_same p q h xs in cc

  pub stable_is : (xs ys : List X) → IsSortedByKey key nat_cmp ys → IsStableByKey key nat_cmp xs ys → ys ≡ sort_in xs
  stable_is xs ys up stable =
      only_one ys (sort_in xs) (up_of ys (IsNonDecreasingBy-from_sort key ys up)) (up_sort xs) (λ x.
      let t = λ (zs : List X). filter_same (ties (λ a b. is_lt (nat_cmp (key a) (key b))) x) (tie x) (ties_are x) zs in
      sym (t ys) ∙ stable x ∙ t xs ∙ sym (filter_sort x xs))

-- references to wires are sorted as the wires are
abbrev pub wire_port : Bor Wire → ℕ
wire_port r = r.now.port

abbrev pub wires_at : List (Bor Wire) → List Wire
wires_at rs = map (λ r. r.now) rs

map_cond : (b : Bool) (xs ys : List (Bor Wire)) → wires_at (cond b xs ys) ≡ cond b (wires_at xs) (wires_at ys)
map_cond true xs ys = refl
map_cond false xs ys = refl

put_wires : (r : Bor Wire) (rs : List (Bor Wire)) → wires_at (put wire_port r rs) ≡ insert_port r.now (wires_at rs)
put_wires r [] = refl
put_wires r (s ∷ ss) =
    map_cond (leb (wire_port r) (wire_port s)) (r ∷ s ∷ ss) (s ∷ put wire_port r ss) ∙ ap (λ rest. cond (leb (wire_port r) (wire_port s)) (r.now ∷ s.now ∷ wires_at ss) (s.now ∷ rest)) (put_wires r ss)

sort_wires : (rs : List (Bor Wire)) → wires_at (sort_in wire_port rs) ≡ by_port (wires_at rs)
sort_wires [] = refl
sort_wires (r ∷ rs) = put_wires r (sort_in wire_port rs) ∙ ap (insert_port r.now) (sort_wires rs)

pub wires_by_port : (xs ys : List (Bor Wire)) → IsSortedByKey wire_port nat_cmp ys → IsStableByKey wire_port nat_cmp xs ys → wires_at ys ≡ by_port (wires_at xs)
wires_by_port xs ys up stable = ap wires_at (stable_is wire_port xs ys up stable) ∙ sort_wires xs
