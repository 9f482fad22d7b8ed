-- The marks of names: no name of the module begins so, and with fewer underscores one does.
use Rattle.std.proofs.Common.{◌≡◌, ℕ, zero, suc, ◌+◌, ◌≤◌, ◌<◌, ◌⊎◌, inl, inr, max, Bool, true, false, ◌&&◌, cond, nat_eq, List, [], ◌∷◌, ◌++◌, map, length, take, drop, replicate, refl, sym, ap, subst, ◌∙◌, append_assoc, add-one, arith}
use Rattle.std.specs.Prelude.{codes, fold, Some, slice_get}
use Rattle.std.specs.List.{starts_with}
use Rattle.std.specs.Cmp.Lexicographic.{pointwise}
use Rattle.std.proofs.lemmas.Bool.{false≢true, eqb-true, eq-eqb}
use Rattle.std.proofs.lemmas.Option.{none-some, same_Some}
use Rattle.net_core.specs.declared.cells.Comb.{Comb}
use Rattle.net_core.specs.declared.cells.Reg.{Reg}
use Rattle.net_core.specs.declared.cells.Carried.{Carried}
use Rattle.net_core.specs.declared.mems.Mem.{Mem}
use Rattle.net_core.specs.declared.rams.RamCell.{RamCell}
use Rattle.net_core.specs.declared.modules.Wire.{Wire}
use Rattle.net_core.specs.declared.modules.Module.{Module}
use Rattle.net_core.proofs.Basics.{and_left, and_right, both}
use Rattle.plan_search.proofs.Walked.{fold_append, fold_map}
use Rattle.plain_bind.specs.Names.{underscores, marks_of, more_marks, most_marks, all_names, marks, marked, IsFewest, MarksAreFewest}

-- a text that begins with another is as long
pub long : (xs needle : List ℕ) → starts_with nat_eq xs needle ≡ true → length needle ≤ length xs
long xs [] e = omega arith
long [] (n ∷ ns) e = absurd (false≢true e)
long (x ∷ xs) (n ∷ ns) e = omega (arith, long xs ns (and_right (nat_eq n x) (pointwise nat_eq ns (take (length ns) xs)) e))

and_assoc : (a b c : Bool) → a && (b && c) ≡ (a && b) && c
and_assoc true b c = refl
and_assoc false b c = refl

-- to begin with two pieces
in_pieces : (xs a b : List ℕ) → starts_with nat_eq xs (a ++ b) ≡ starts_with nat_eq xs a && starts_with nat_eq (drop (length a) xs) b
in_pieces xs [] b = refl
in_pieces [] (n ∷ ns) b = refl
in_pieces (x ∷ xs) (n ∷ ns) b = ap (λ t. nat_eq n x && t) (in_pieces xs ns b) ∙ and_assoc (nat_eq n x) (starts_with nat_eq xs ns) (starts_with nat_eq (drop (length ns) xs) b)

-- underscores at the front
few_marks : (y : List ℕ) (k : ℕ) → starts_with nat_eq y (replicate k 95) ≡ true → k ≤ underscores y
few_marks y zero e = omega arith
few_marks [] (suc k) e = absurd (false≢true e)
few_marks (b ∷ bs) (suc k) e =
    let first : nat_eq 95 b ≡ true = and_left (nat_eq 95 b) (starts_with nat_eq bs (replicate k 95)) e in
    let same : nat_eq b 95 ≡ true = eq-eqb b 95 (sym (eqb-true 95 b first)) in
    let rest : k ≤ underscores bs = few_marks bs k (and_right (nat_eq 95 b) (starts_with nat_eq bs (replicate k 95)) e) in
    let step : suc k ≤ 1 + underscores bs = omega (arith, rest) in
    subst (λ c. suc k ≤ cond c (1 + underscores bs) 0) (sym same) step

enough_marks : (y : List ℕ) (k : ℕ) → k ≤ underscores y → starts_with nat_eq y (replicate k 95) ≡ true
enough_marks y zero h = refl
enough_marks [] (suc k) h = absurd (omega (arith, h))
enough_marks (b ∷ bs) (suc k) h = by_first b bs k (nat_eq b 95) refl h (λ l. enough_marks bs k l)
  where
    by_first : (b : ℕ) (bs : List ℕ) (k : ℕ) (c : Bool) → nat_eq b 95 ≡ c → suc k ≤ cond c (1 + underscores bs) 0 → (k ≤ underscores bs → starts_with nat_eq bs (replicate k 95) ≡ true) → starts_with nat_eq (b ∷ bs) (replicate (suc k) 95) ≡ true
    by_first b bs k true e h rest = both (nat_eq 95 b) (starts_with nat_eq bs (replicate k 95)) (eq-eqb 95 b (sym (eqb-true b 95 e))) (rest (omega (arith, h)))
    by_first b bs k false e h rest = absurd (omega (arith, h))

-- a name begins with a mark exactly where it asks for more
begins_asks : (x : List ℕ) (k : ℕ) → starts_with nat_eq x (marked k) ≡ true → k < marks_of x
unfolding marks_of
begins_asks x k e =
    let pieces = sym (in_pieces x (codes "$ram") (replicate k 95)) ∙ e in
    let front = and_left (starts_with nat_eq x (codes "$ram")) (starts_with nat_eq (drop 4 x) (replicate k 95)) pieces in
    let rest = few_marks (drop 4 x) k (and_right (starts_with nat_eq x (codes "$ram")) (starts_with nat_eq (drop 4 x) (replicate k 95)) pieces) in
    let step : k < 1 + underscores (drop 4 x) = omega (arith, rest) in
    subst (λ c. k < cond c (1 + underscores (drop 4 x)) 0) (sym front) step

asks_by : (x : List ℕ) (k : ℕ) (c : Bool) → starts_with nat_eq x (codes "$ram") ≡ c → k < cond c (1 + underscores (drop 4 x)) 0 → starts_with nat_eq x (marked k) ≡ true
asks_by x k true e h =
    in_pieces x (codes "$ram") (replicate k 95) ∙ both (starts_with nat_eq x (codes "$ram")) (starts_with nat_eq (drop 4 x) (replicate k 95)) e (enough_marks (drop 4 x) k (omega (arith, h)))
asks_by x k false e h = absurd (omega (arith, h))

asks_begins : (x : List ℕ) (k : ℕ) → k < marks_of x → starts_with nat_eq x (marked k) ≡ true
unfolding marks_of
asks_begins x k h = asks_by x k (starts_with nat_eq x (codes "$ram")) refl h

-- the most of some names
start_most : (n : ℕ) (names : List (List ℕ)) → n ≤ most_marks n names
start_most n [] = omega arith
start_most n (x ∷ names) = omega (arith, start_most (more_marks n x) names)

each_most : (n : ℕ) (names : List (List ℕ)) (i : ℕ) (x : List ℕ) → slice_get names i ≡ Some x → marks_of x ≤ most_marks n names
each_most n [] i x e = absurd (none-some x e)
each_most n (y ∷ names) zero x e =
    let same : y ≡ x = same_Some y x e in
    let h : marks_of y ≤ most_marks n (y ∷ names) = omega (arith, start_most (more_marks n y) names) in
    subst (λ z. marks_of z ≤ most_marks n (y ∷ names)) same h
each_most n (y ∷ names) (suc i) x e = each_most (more_marks n y) names i x e

abbrev Attained : ℕ → ℕ → List (List ℕ) → Type 0
Attained most n names = (most ≡ n) ⊎ ((i : ℕ) × (x : List ℕ) × (slice_get names i ≡ Some x) × (most ≡ marks_of x))

max_is : (a b : ℕ) → (max a b ≡ a) ⊎ (max a b ≡ b)
max_is a b = grind arith

attained : (n : ℕ) (names : List (List ℕ)) → Attained (most_marks n names) n names
attained n [] = inl refl
attained n (y ∷ names) = elim (attained (more_marks n y) names) as (λ _. Attained (most_marks n (y ∷ names)) n (y ∷ names)) [
  | inl e ↦ elim (max_is n (marks_of y)) as (λ _. Attained (most_marks n (y ∷ names)) n (y ∷ names)) [
    | inl f ↦ inl (e ∙ f)
    | inr f ↦ inr (0, y, refl, e ∙ f)
  ]
  | inr (i, x, there, e) ↦ inr (suc i, x, there, e)
]

not_true : (b : Bool) → (b ≡ true → ⊥) → b ≡ false
not_true true h = absurd (h refl)
not_true false h = refl

most_is_fewest : (names : List (List ℕ)) → IsFewest names (most_marks 0 names)
most_is_fewest names = record {
  fresh = λ i x there. not_true (starts_with nat_eq x (marked (most_marks 0 names))) (λ e. absurd (omega (arith, begins_asks x (most_marks 0 names) e, each_most 0 names i x there)));
  fewest = λ k less. elim (attained 0 names) [
    | inl e ↦ absurd (omega (arith, e, less))
    | inr (i, x, there, e) ↦ (i, x, there, asks_begins x k (omega (arith, e, less)))
  ];
}

pub marks_are_fewest : MarksAreFewest
marks_are_fewest m = most_is_fewest (all_names m)

-- the names kind by kind
by_name : {X : Type 0} (name : X → List ℕ) (n : ℕ) (xs : List X) (rest : List (List ℕ)) → most_marks n (map name xs ++ rest) ≡ most_marks (fold (λ n x. more_marks n (name x)) n xs) rest
by_name name n xs rest = fold_append more_marks n (map name xs) rest ∙ ap (λ k. most_marks k rest) (fold_map more_marks name n xs)

pub by_kind : (m : Module) → fold (λ n (c : Carried). more_marks n c.name) (fold (λ n (c : RamCell). more_marks n c.name) (fold (λ n (r : Reg). more_marks n r.name) (fold (λ n (c : Comb). more_marks n c.name) (fold (λ n (x : Mem). more_marks n x.name) (fold (λ n (w : Wire). more_marks n w.name) 0 m.wires) m.mems) m.combs) m.regs) m.rams) m.carried ≡ marks m
by_kind m =
    let a = by_name (λ (w : Wire). w.name) 0 m.wires (map (λ (x : Mem). x.name) m.mems ++ (map (λ (c : Comb). c.name) m.combs ++ (map (λ (r : Reg). r.name) m.regs ++ (map (λ (c : RamCell). c.name) m.rams ++ map (λ (c : Carried). c.name) m.carried)))) in
    let one : ℕ = fold (λ n (w : Wire). more_marks n w.name) 0 m.wires in
    let b = by_name (λ (x : Mem). x.name) one m.mems (map (λ (c : Comb). c.name) m.combs ++ (map (λ (r : Reg). r.name) m.regs ++ (map (λ (c : RamCell). c.name) m.rams ++ map (λ (c : Carried). c.name) m.carried))) in
    let two : ℕ = fold (λ n (x : Mem). more_marks n x.name) one m.mems in
    let c = by_name (λ (c : Comb). c.name) two m.combs (map (λ (r : Reg). r.name) m.regs ++ (map (λ (c : RamCell). c.name) m.rams ++ map (λ (c : Carried). c.name) m.carried)) in
    let three : ℕ = fold (λ n (c : Comb). more_marks n c.name) two m.combs in
    let d = by_name (λ (r : Reg). r.name) three m.regs (map (λ (c : RamCell). c.name) m.rams ++ map (λ (c : Carried). c.name) m.carried) in
    let four : ℕ = fold (λ n (r : Reg). more_marks n r.name) three m.regs in
    let e = by_name (λ (c : RamCell). c.name) four m.rams (map (λ (c : Carried). c.name) m.carried) in
    let five : ℕ = fold (λ n (c : RamCell). more_marks n c.name) four m.rams in
    sym (a ∙ (b ∙ (c ∙ (d ∙ (e ∙ fold_map more_marks (λ (c : Carried). c.name) five m.carried)))))

-- one more underscore
one_behind : (b k : ℕ) → replicate (suc k) b ≡ replicate k b ++ b ∷ []
one_behind b zero = refl
one_behind b (suc k) = ap (λ t. b ∷ t) (one_behind b k)

pub one_more : (k : ℕ) → marked (k + 1) ≡ marked k ++ 95 ∷ []
one_more k = ap marked (add-one k) ∙ (ap (λ t. codes "$ram" ++ t) (one_behind 95 k) ∙ sym (append_assoc (codes "$ram") (replicate {A = ℕ} k 95) (95 ∷ [])))
