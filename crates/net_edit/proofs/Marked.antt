-- The marks of names: no name of the module begins so.
use Rattle.std.proofs.Common.{◌≡◌, ℕ, zero, suc, ◌+◌, ◌≤◌, ◌<◌, Bool, true, false, ◌&&◌, cond, nat_eq, List, [], ◌∷◌, ◌++◌, map, length, take, drop, replicate, refl, sym, ap, subst, ◌∙◌, append_assoc, add-one, arith}
use Rattle.std.specs.Prelude.{codes, fold, Some, slice_get}
use Rattle.std.specs.List.{starts_with}
use Rattle.std.specs.Cmp.Lexicographic.{pointwise}
use Rattle.std.specs.Fmt.{decimal}
use Rattle.std.proofs.lemmas.Bool.{false≢true, eqb-true, eq-eqb}
use Rattle.std.proofs.lemmas.Option.{none-some, same_Some}
use Rattle.net_core.specs.declared.cells.Comb.{Comb}
use Rattle.net_core.specs.declared.cells.Reg.{Reg}
use Rattle.net_core.specs.declared.cells.Carried.{Carried}
use Rattle.net_core.specs.declared.rams.RamCell.{RamCell}
use Rattle.net_core.specs.declared.modules.Module.{Module}
use Rattle.net_core.proofs.Basics.{and_left, and_right, both}
use Rattle.net_core.specs.declared.modules.MemPart.{MemPart}
use Rattle.net_core.specs.Valid.{cell_names}
use Rattle.net_edit.specs.Names.{underscores, marks_of, more_marks, most_marks, marked, AreFree, IsFront}

fold_append : {A B : Type 0} (f : B → A → B) (b : B) (xs ys : List A) → fold f b (xs ++ ys) ≡ fold f (fold f b xs) ys
fold_append f b [] ys = refl
fold_append f b (x ∷ xs) ys = fold_append f (f b x) xs ys

fold_map : {A B C : Type 0} (f : B → C → B) (g : A → C) (b : B) (xs : List A) → fold f b (map g xs) ≡ fold (λ c x. f c (g x)) b xs
fold_map f g b [] = refl
fold_map f g b (x ∷ xs) = fold_map f g (f b (g x)) xs

-- a text that begins with another is as long
pub long : (xs needle : List ℕ) → starts_with nat_eq xs needle ≡ true → length needle ≤ length xs
long xs [] e = omega arith
long [] (n ∷ ns) e = absurd (false≢true e)
long (x ∷ xs) (n ∷ ns) e = omega (arith, long xs ns (and_right (nat_eq n x) (pointwise nat_eq ns (take (length ns) xs)) e))

and_assoc : (a b c : Bool) → a && (b && c) ≡ (a && b) && c
and_assoc true b c = refl
and_assoc false b c = refl

-- to begin with two pieces
in_pieces : (xs a b : List ℕ) → starts_with nat_eq xs (a ++ b) ≡ starts_with nat_eq xs a && starts_with nat_eq (drop (length a) xs) b
in_pieces xs [] b = refl
in_pieces [] (n ∷ ns) b = refl
in_pieces (x ∷ xs) (n ∷ ns) b = ap (λ t. nat_eq n x && t) (in_pieces xs ns b) ∙ and_assoc (nat_eq n x) (starts_with nat_eq xs ns) (starts_with nat_eq (drop (length ns) xs) b)

-- underscores at the front
few_marks : (y : List ℕ) (k : ℕ) → starts_with nat_eq y (replicate k 95) ≡ true → k ≤ underscores y
few_marks y zero e = omega arith
few_marks [] (suc k) e = absurd (false≢true e)
few_marks (b ∷ bs) (suc k) e =
    let first : nat_eq 95 b ≡ true = and_left (nat_eq 95 b) (starts_with nat_eq bs (replicate k 95)) e in
    let same : nat_eq b 95 ≡ true = eq-eqb b 95 (sym (eqb-true 95 b first)) in
    let rest : k ≤ underscores bs = few_marks bs k (and_right (nat_eq 95 b) (starts_with nat_eq bs (replicate k 95)) e) in
    let step : suc k ≤ 1 + underscores bs = omega (arith, rest) in
    subst (λ c. suc k ≤ cond c (1 + underscores bs) 0) (sym same) step

enough_marks : (y : List ℕ) (k : ℕ) → k ≤ underscores y → starts_with nat_eq y (replicate k 95) ≡ true
enough_marks y zero h = refl
enough_marks [] (suc k) h = absurd (omega (arith, h))
enough_marks (b ∷ bs) (suc k) h = by_first b bs k (nat_eq b 95) refl h (λ l. enough_marks bs k l)
  where
    by_first : (b : ℕ) (bs : List ℕ) (k : ℕ) (c : Bool) → nat_eq b 95 ≡ c → suc k ≤ cond c (1 + underscores bs) 0 → (k ≤ underscores bs → starts_with nat_eq bs (replicate k 95) ≡ true) → starts_with nat_eq (b ∷ bs) (replicate (suc k) 95) ≡ true
    by_first b bs k true e h rest = both (nat_eq 95 b) (starts_with nat_eq bs (replicate k 95)) (eq-eqb 95 b (sym (eqb-true b 95 e))) (rest (omega (arith, h)))
    by_first b bs k false e h rest = absurd (omega (arith, h))

-- a name begins with a mark exactly where it asks for more
begins_asks : (x : List ℕ) (k : ℕ) → starts_with nat_eq x (marked k) ≡ true → k < marks_of x
unfolding marks_of
begins_asks x k e =
    let pieces = sym (in_pieces x (codes "$edit") (replicate k 95)) ∙ e in
    let front = and_left (starts_with nat_eq x (codes "$edit")) (starts_with nat_eq (drop 5 x) (replicate k 95)) pieces in
    let rest = few_marks (drop 5 x) k (and_right (starts_with nat_eq x (codes "$edit")) (starts_with nat_eq (drop 5 x) (replicate k 95)) pieces) in
    let step : k < 1 + underscores (drop 5 x) = omega (arith, rest) in
    subst (λ c. k < cond c (1 + underscores (drop 5 x)) 0) (sym front) step

asks_by : (x : List ℕ) (k : ℕ) (c : Bool) → starts_with nat_eq x (codes "$edit") ≡ c → k < cond c (1 + underscores (drop 5 x)) 0 → starts_with nat_eq x (marked k) ≡ true
asks_by x k true e h =
    in_pieces x (codes "$edit") (replicate k 95) ∙ both (starts_with nat_eq x (codes "$edit")) (starts_with nat_eq (drop 5 x) (replicate k 95)) e (enough_marks (drop 5 x) k (omega (arith, h)))
asks_by x k false e h = absurd (omega (arith, h))

asks_begins : (x : List ℕ) (k : ℕ) → k < marks_of x → starts_with nat_eq x (marked k) ≡ true
unfolding marks_of
asks_begins x k h = asks_by x k (starts_with nat_eq x (codes "$edit")) refl h

-- the most of some names
start_most : (n : ℕ) (names : List (List ℕ)) → n ≤ most_marks n names
start_most n [] = omega arith
start_most n (x ∷ names) = omega (arith, start_most (more_marks n x) names)

each_most : (n : ℕ) (names : List (List ℕ)) (i : ℕ) (x : List ℕ) → slice_get names i ≡ Some x → marks_of x ≤ most_marks n names
each_most n [] i x e = absurd (none-some x e)
each_most n (y ∷ names) zero x e =
    let same : y ≡ x = same_Some y x e in
    let h : marks_of y ≤ most_marks n (y ∷ names) = omega (arith, start_most (more_marks n y) names) in
    subst (λ z. marks_of z ≤ most_marks n (y ∷ names)) same h
each_most n (y ∷ names) (suc i) x e = each_most (more_marks n y) names i x e

-- the names kind by kind
by_name : {X : Type 0} (name : X → List ℕ) (n : ℕ) (xs : List X) (rest : List (List ℕ)) → most_marks n (map name xs ++ rest) ≡ most_marks (fold (λ n x. more_marks n (name x)) n xs) rest
by_name name n xs rest = fold_append more_marks n (map name xs) rest ∙ ap (λ k. most_marks k rest) (fold_map more_marks name n xs)

pub by_kind : (m : Module) → fold (λ n (p : MemPart). more_marks n p.name) (fold (λ n (c : Carried). more_marks n c.name) (fold (λ n (c : RamCell). more_marks n c.name) (fold (λ n (r : Reg). more_marks n r.name) (fold (λ n (c : Comb). more_marks n c.name) 0 m.combs) m.regs) m.rams) m.carried) m.parts ≡ most_marks 0 (cell_names m)
by_kind m =
    let parts = map (λ (p : MemPart). p.name) m.parts in
    let carried = map (λ (c : Carried). c.name) m.carried in
    let rams = map (λ (c : RamCell). c.name) m.rams in
    let regs = map (λ (r : Reg). r.name) m.regs in
    let a = by_name (λ (c : Comb). c.name) 0 m.combs (regs ++ (rams ++ (carried ++ parts))) in
    let one : ℕ = fold (λ n (c : Comb). more_marks n c.name) 0 m.combs in
    let b = by_name (λ (r : Reg). r.name) one m.regs (rams ++ (carried ++ parts)) in
    let two : ℕ = fold (λ n (r : Reg). more_marks n r.name) one m.regs in
    let c = by_name (λ (c : RamCell). c.name) two m.rams (carried ++ parts) in
    let three : ℕ = fold (λ n (c : RamCell). more_marks n c.name) two m.rams in
    let d = by_name (λ (c : Carried). c.name) three m.carried parts in
    let four : ℕ = fold (λ n (c : Carried). more_marks n c.name) three m.carried in
    sym (a ∙ (b ∙ (c ∙ (d ∙ fold_map more_marks (λ (p : MemPart). p.name) four m.parts))))

-- one more underscore
one_behind : (b k : ℕ) → replicate (suc k) b ≡ replicate k b ++ b ∷ []
one_behind b zero = refl
one_behind b (suc k) = ap (λ t. b ∷ t) (one_behind b k)

pub one_more : (k : ℕ) → marked (k + 1) ≡ marked k ++ 95 ∷ []
one_more k = ap marked (add-one k) ∙ (ap (λ t. codes "$edit" ++ t) (one_behind 95 k) ∙ sym (append_assoc (codes "$edit") (replicate {A = ℕ} k 95) (95 ∷ [])))

-- no name begins with the mark, so with a number behind it none is one of them
starts_itself : (a b : List ℕ) → starts_with nat_eq (a ++ b) a ≡ true
starts_itself [] b = refl
starts_itself (x ∷ a) b = both (nat_eq x x) (starts_with nat_eq (a ++ b) a) (eq-eqb x x refl) (starts_itself a b)

pub front_is_free : (names : List (List ℕ)) (text : List ℕ) → text ≡ marked (most_marks 0 names) → IsFront text × AreFree text 0 names
front_is_free names text is = (
  record { marks = most_marks 0 names; is = is },
  record {
    apart = λ k x there i low high same.
        let begins : starts_with nat_eq x (marked (most_marks 0 names)) ≡ true =
        ap (λ y. starts_with nat_eq y (marked (most_marks 0 names))) (same ∙ ap (λ t. t ++ decimal i) is) ∙ starts_itself (marked (most_marks 0 names)) (decimal i) in
        absurd (omega (arith, begins_asks x (most_marks 0 names) begins, each_most 0 names k x there));
  },
)
