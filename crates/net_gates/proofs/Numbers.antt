-- Numbers as constant bits, and comparisons with them.
use Rattle.std.proofs.Common.{◌≡◌, ℕ, zero, suc, ◌+◌, ◌*◌, ◌/◌, ◌%◌, ◌<◌, ◌≤◌, max, Bool, true, false, cond, List, [], ◌∷◌, ◌++◌, map, length, Some, inl, inr, refl, sym, ap, ◌∙◌, subst, arith, append-nil, append_assoc, nat_eq, nat_lt}
use Rattle.std.specs.Prelude.{slice_get}
use Rattle.std.specs.List.{range_with_len}
use Rattle.std.proofs.lemmas.Bool.{false≢true, eqb-true, eq-eqb}
use Rattle.std.proofs.lemmas.Bool.Decides.{nat_tests}
use Rattle.std.proofs.lemmas.Option.{same_Some}
use Rattle.net_core.specs.declared.bits.Bit.{Bit}
use Rattle.net_core.specs.declared.bits.Bit.TheVariants.{Net}
use Rattle.net_core.specs.declared.cells.CombKind.TheVariants.{Eq, Lt, Mux}
use Rattle.net_core.specs.Logic.{extended, number_at}
use Rattle.net_core.proofs.Basics.{get_joined}
use Rattle.net_core.specs.Nodes.{HasNet}
use Rattle.net_core.specs.Values.{Valuation, values_of, value_of, number_of, bit_at, tri_of}
use Rattle.net_edit.specs.Edits.{Editing, bits_from}
use Rattle.net_edit.specs.Ranks.{height}
use Rattle.net_gates.specs.Adds.{Adds, AddsBit, IsReady}
use Rattle.net_gates.specs.Cells.{AddsLogic}
use Rattle.net_gates.specs.Meanings.{constant_bit, IsConstant, number_in, equals, is_below, either_list}
use Rattle.net_gates.proofs.Composing.{below_joined, adds_as}
use Rattle.net_gates.proofs.OneBit.{gate_adds}
use Rattle.net_gates.proofs.NewCell.{logic_adds}
use Rattle.net_edit.proofs.Heights.{height_least, height_joined}

-- ---- numbers

values_length : (u : Valuation) (bits : List Bit) → length (values_of u bits) ≡ length bits
values_length u [] = refl
values_length u (b ∷ bs) = ap suc (values_length u bs)

beyond : (xs : List Bool) (k : ℕ) → length xs ≤ k → extended false xs k ≡ false
beyond xs k le = let e : nat_lt k (length xs) ≡ false = grind (arith, nat_tests) in ap (λ b. cond b (bit_at xs k) false) e

within : (xs : List Bool) (k : ℕ) → k < length xs → extended false xs k ≡ bit_at xs k
within xs k l = let e : nat_lt k (length xs) ≡ true = grind (arith, nat_tests) in ap (λ b. cond b (bit_at xs k) false) e

shifted : (x : Bool) (xs : List Bool) (k : ℕ) → extended false (x ∷ xs) (suc k) ≡ extended false xs k
shifted x xs k = by_place (nat_lt k (length xs)) refl
  where
    by_place : (b : Bool) → nat_lt k (length xs) ≡ b → extended false (x ∷ xs) (suc k) ≡ extended false xs k
    by_place true e = let l : k < length xs = grind (arith, nat_tests) in let m : suc k < length (x ∷ xs) = omega (arith, l) in within (x ∷ xs) (suc k) m ∙ sym (within xs k l)
    by_place false e = let l : length xs ≤ k = grind (arith, nat_tests) in let m : length (x ∷ xs) ≤ suc k = omega (arith, l) in beyond (x ∷ xs) (suc k) m ∙ sym (beyond xs k l)

-- places counted from one on
range_moved : (f g : ℕ → Bool) (a n : ℕ) → ((k : ℕ) → f (suc k) ≡ g k) → map f (range_with_len (suc a) n) ≡ map g (range_with_len a n)
range_moved f g a zero e = refl
range_moved f g a (suc n) e =
    let z : suc a + 1 ≡ suc (a + 1) = omega arith in
    (λ i. e a i ∷ (ap (λ s. map f (range_with_len s n)) z ∙ range_moved f g (a + 1) n e) i)

zeros : (f : ℕ → Bool) (a n : ℕ) → ((k : ℕ) → f k ≡ false) → number_of (map f (range_with_len a n)) ≡ 0
zeros f a zero e = refl
zeros f a (suc n) e =
    let rest = zeros f (a + 1) n e in
    let first : ◌≡◌ {A = ℕ} (cond (f a) 1 0) 0 = ap (λ b. cond b 1 0) (e a) in
    omega (arith, rest, first)

pub number_is : (xs : List Bool) (width : ℕ) → length xs ≤ width → number_at false xs width ≡ number_of xs
number_is [] width le = zeros (extended false []) 0 width (λ k. beyond [] k (omega arith))
number_is (x ∷ xs) zero le = absurd (omega (arith, le))
number_is (x ∷ xs) (suc width) le =
    let rest = number_is xs width (omega (arith, le)) in
    let moved = range_moved (extended false (x ∷ xs)) (extended false xs) 0 width (shifted x xs) in
    let first : extended false (x ∷ xs) 0 ≡ x = within (x ∷ xs) 0 (omega arith) in
    (λ i. cond (first i) 1 0 + 2 * number_of (moved i)) ∙ ap (λ n. cond x 1 0 + 2 * n) rest

-- ---- constants

-- the bits so far, and what is left of the number
pub record IsBuilding (number rest : ℕ) (bits : List Bit) : Type 0 where
  pub shows : (u : Valuation) (more : List Bit) → number_in more u ≡ rest → number_in (bits ++ more) u ≡ number
  pub fixed : (n : ℕ) → HasNet bits n → ⊥

pub none_built : (number : ℕ) (bits : List Bit) → bits ≡ [] → IsBuilding number number bits
none_built number bits e = subst (IsBuilding number number) (sym e) (record { shows = λ u more h. h; fixed = λ n (k, at). cc })

constant_shows : (u : Valuation) (b : Bool) → value_of u (constant_bit b) ≡ b
constant_shows u true = refl
constant_shows u false = refl

constant_fixed : (b : Bool) (n : ℕ) → constant_bit b ≡ Net n → ⊥
constant_fixed true n e = cc
constant_fixed false n e = cc

parity : (rest : ℕ) (b : Bool) → nat_eq (rest % 2) 1 ≡ b → cond b 1 0 + 2 * (rest / 2) ≡ rest
parity rest true e = let one : rest % 2 ≡ 1 = eqb-true (rest % 2) 1 e in omega (arith, one)
parity rest false e = let none : rest % 2 ≡ 1 → ⊥ = (λ q. false≢true (sym e ∙ eq-eqb (rest % 2) 1 q)) in let low : rest % 2 ≡ 0 = small (rest % 2) none (omega arith) in omega (arith, low)
  where
    small : (r : ℕ) → (r ≡ 1 → ⊥) → r < 2 → r ≡ 0
    small zero h l = refl
    small (suc zero) h l = absurd (h refl)
    small (suc (suc r)) h l = absurd (omega (arith, l))

pub one_more : (number rest next : ℕ) (bits now : List Bit) (b : Bool) → b ≡ nat_eq (rest % 2) 1 → next ≡ rest / 2 → now ≡ bits ++ constant_bit b ∷ [] → IsBuilding number rest bits → IsBuilding number next now
one_more number rest next bits now b is e put built = subst (IsBuilding number next) (sym put) (record {
  shows = λ u more h.
      let first : cond (value_of u (constant_bit b)) 1 0 + 2 * number_in more u ≡ rest =
      (λ i. cond (constant_shows u b i) 1 0 + 2 * (h ∙ e) i) ∙ parity rest b (sym is) in
      ap (λ l. number_in l u) (append_assoc bits (constant_bit b ∷ []) more) ∙ built.shows u (constant_bit b ∷ more) first;
  fixed = λ n (k, at). elim (get_joined bits (constant_bit b ∷ []) k (Net n) at) [
    | inl old ↦ built.fixed n (k, old)
    | inr (j, q, own) ↦ last j n own
  ];
})
  where
    last : (j n : ℕ) → slice_get (constant_bit b ∷ []) j ≡ Some (Net n) → ⊥
    last zero n at = constant_fixed b n (same_Some (constant_bit b) (Net n) at)
    last (suc j) n at = cc

pub all_built : (number rest : ℕ) (bits list : List Bit) → rest ≡ 0 → list ≡ bits → IsBuilding number rest bits → IsConstant number list
all_built number rest bits list none is built = subst (IsConstant number) (sym is) (record {
  shows = λ u. ap (λ l. number_in l u) (sym (append-nil bits)) ∙ built.shows u [] (sym none);
  fixed = built.fixed;
})

-- ---- comparisons

module _ (old new : Editing) (bits constants : List Bit) (number : ℕ) (y : Bit) (is : y ≡ Net old.netlist.nets) (fixed : IsConstant number constants) (ready : IsReady old bits) where
  ready_both : IsReady old (bits ++ constants)
  ready_both = record {
    within = ready.within;
    below = below_joined old.netlist.nets bits constants ready.below (λ n at. absurd (fixed.fixed n at));
  }

  as_high : (rank : ℕ → ℕ) → height rank (bits ++ constants) ≤ height rank bits
  as_high rank =
      let none = height_least rank constants 0 (λ n at. absurd (fixed.fixed n at)) in
      omega (arith, none, height_joined rank bits constants)

  left_number : (u : Valuation) → number_at false (values_of u bits) (max (length (values_of u bits)) (length (values_of u constants))) ≡ number_in bits u
  left_number u = number_is (values_of u bits) (max (length (values_of u bits)) (length (values_of u constants))) (omega arith)

  right_number : (u : Valuation) → number_at false (values_of u constants) (max (length (values_of u bits)) (length (values_of u constants))) ≡ number
  right_number u = number_is (values_of u constants) (max (length (values_of u bits)) (length (values_of u constants))) (omega arith) ∙ fixed.shows u

  pub equal_adds : AddsLogic old new Eq bits constants [] 1 → AddsBit old new bits y (equals bits number)
  equal_adds logic = adds_as old new (bits ++ constants) bits (y ∷ []) (λ u. equals bits number u ∷ []) (λ u. equals bits number u ∷ [])
      (gate_adds old new Eq bits constants y (equals bits number) is logic ready_both (λ u i. tri_of (nat_eq (left_number u i) (right_number u i)))) as_high (λ u. refl)

  pub less_adds : AddsLogic old new Lt bits constants [] 1 → AddsBit old new bits y (is_below bits number)
  less_adds logic = adds_as old new (bits ++ constants) bits (y ∷ []) (λ u. is_below bits number u ∷ []) (λ u. is_below bits number u ∷ [])
      (gate_adds old new Lt bits constants y (is_below bits number) is logic ready_both (λ u i. tri_of (nat_lt (left_number u i) (right_number u i)))) as_high (λ u. refl)

-- ---- choices

bits_again : (xs : List Bool) → map (bit_at xs) (range_with_len 0 (length xs)) ≡ xs
bits_again [] = refl
bits_again (x ∷ xs) = ap (λ l. x ∷ l) (range_moved (bit_at (x ∷ xs)) (bit_at xs) 0 (length xs) (λ k. refl) ∙ bits_again xs)

pub mux_adds : (old new : Editing) (select : Bit) (low high ys : List Bit) (width : ℕ) → length low ≡ length high → width ≡ length low → ys ≡ bits_from old.netlist.nets width → AddsLogic old new Mux low high (select ∷ []) width → IsReady old (low ++ high ++ select ∷ []) → Adds old new (low ++ high ++ select ∷ []) ys (either_list select low high)
mux_adds old new select low high ys width even wide is logic ready =
    let g : Valuation → ℕ → Bool = λ u k. cond (value_of u select) (bit_at (values_of u high) k) (bit_at (values_of u low) k) in
    let made = logic_adds old new Mux low high (select ∷ []) width g logic ready (λ u k l. refl) in
    subst (λ z. Adds old new (low ++ high ++ select ∷ []) z (either_list select low high)) (sym is)
    (adds_as old new (low ++ high ++ select ∷ []) (low ++ high ++ select ∷ []) (bits_from old.netlist.nets width) (λ u. map (g u) (range_with_len 0 width)) (either_list select low high) made (λ rank. omega arith) (λ u. chosen u (value_of u select)))
  where
    chosen : (u : Valuation) (b : Bool) → map (λ k. cond b (bit_at (values_of u high) k) (bit_at (values_of u low) k)) (range_with_len 0 width) ≡ cond b (values_of u high) (values_of u low)
    chosen u true = ap (λ n. map (bit_at (values_of u high)) (range_with_len 0 n)) (wide ∙ even ∙ sym (values_length u high)) ∙ bits_again (values_of u high)
    chosen u false = ap (λ n. map (bit_at (values_of u low)) (range_with_len 0 n)) (wide ∙ sym (values_length u low)) ∙ bits_again (values_of u low)

-- what the call that makes it gives
pub mux_made : (old new : Editing) (select : Bit) (low high ys left right chosen : List Bit) (width : ℕ) → left ≡ low → right ≡ high → chosen ≡ select ∷ [] → length low ≡ length high → width ≡ length low → ys ≡ bits_from old.netlist.nets width → AddsLogic old new Mux left right chosen width → IsReady old (low ++ high ++ select ∷ []) → Adds old new (low ++ high ++ select ∷ []) ys (either_list select low high)
mux_made old new select low high ys left right chosen width l r c even wide is logic ready =
    let first = subst (λ z. AddsLogic old new Mux z right chosen width) l logic in
    let second = subst (λ z. AddsLogic old new Mux low z chosen width) r first in
    let third = subst (λ z. AddsLogic old new Mux low high z width) c second in
    mux_adds old new select low high ys width even wide is third ready
