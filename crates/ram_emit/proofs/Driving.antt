-- Each net of the new module has at most one driver.
use Rattle.std.proofs.Common.{◌≡◌, ℕ, zero, suc, ◌+◌, ◌-◌, ◌<◌, inl, inr, true, false, cond, List, [], ◌∷◌, length, Option, Some, None, refl, sym, ap, ◌∙◌, subst, arith, nat_eq, nat_lt}
use Rattle.std.specs.Prelude.{slice_get}
use Rattle.std.proofs.lemmas.Bool.{eq-eqb, ne_eqb}
use Rattle.std.proofs.lemmas.Option.{same_Some}
use Rattle.net_core.specs.declared.modules.Module.{Module}
use Rattle.net_core.specs.declared.rams.RamCell.{RamCell}
use Rattle.net_core.specs.declared.rams.SlotUse.{SlotUse}
use Rattle.net_core.specs.Drivers.{Driver, Free, Input, CombOut, RegOut, ReadOut, SlotOut, HasOneDriver}
use Rattle.net_core.specs.Nodes.{Node, comb_node, reg_node, read_node, slot_node, nodes_of, Drives}
use Rattle.net_core.specs.Ports.{inputs_of}
use Rattle.net_core.specs.Valid.{AreApart}
use Rattle.net_core.proofs.Basics.{get_joined}
use Rattle.ram_emit.specs.Placing.{placed_in}
use Rattle.ram_emit.proofs.Placed.{Has, has_left, has_right, removed}
use Rattle.ram_emit.proofs.Apart.{left_apart, right_apart, cross_apart, either_side}
use Rattle.ram_emit.proofs.Outs.{outs_of}
use Rattle.ram_emit.proofs.NodePlaces.{comb_there, reg_there, read_there, slot_there}

-- ---- the place of a net

abbrev later : Option ℕ → Option ℕ
later None = None
later (Some k) = Some (suc k)

abbrev place_of : List ℕ → ℕ → Option ℕ
place_of [] n = None
place_of (x ∷ xs) n = cond (nat_eq x n) (Some 0) (later (place_of xs n))

place_found : (xs : List ℕ) → AreApart xs → (k n : ℕ) → slice_get xs k ≡ Some n → place_of xs n ≡ Some k
place_found [] apart k n h = cc
place_found (x ∷ xs) apart zero n h = ap (λ b. cond b (Some 0) (later (place_of xs n))) (eq-eqb x n (same_Some x n h))
place_found (x ∷ xs) apart (suc k) n h =
    let off : x ≡ n → ⊥ = λ e. let q = apart 0 (suc k) n (ap Some e) h in omega (arith, q) in
    ap (λ b. cond b (Some 0) (later (place_of xs n))) (ne_eqb x n off) ∙ ap later (place_found xs (λ a b y p q. let e = apart (suc a) (suc b) y p q in omega (arith, e)) k n h)

place_missing : (xs : List ℕ) (n : ℕ) → (Has xs n → ⊥) → place_of xs n ≡ None
place_missing [] n h = refl
place_missing (x ∷ xs) n h = ap (λ b. cond b (Some 0) (later (place_of xs n))) (ne_eqb x n (λ e. h (0, ap Some e))) ∙ ap later (place_missing xs n (λ (k, at). h (suc k, at)))

abbrev found_in : ℕ → ℕ → Option ℕ → Option Driver → Option Driver
found_in ram j None rest = rest
found_in ram j (Some k) rest = Some (SlotOut ram j k)

abbrev search_from : ℕ → ℕ → List SlotUse → ℕ → Option Driver
search_from ram j [] n = None
search_from ram j (s ∷ ss) n = found_in ram j (place_of s.out n) (search_from ram (j + 1) ss n)

pub has_out : (ss : List SlotUse) (a : ℕ) (s : SlotUse) (n : ℕ) → slice_get ss a ≡ Some s → Has s.out n → Has (outs_of ss) n
has_out [] a s n h g = cc
has_out (q ∷ ss) zero s n h g = has_left q.out (outs_of ss) n (subst (λ (r : SlotUse). Has r.out n) (sym (same_Some q s h)) g)
has_out (q ∷ ss) (suc a) s n h g = has_right q.out (outs_of ss) n (has_out ss a s n h g)

search_found : (ram j : ℕ) (ss : List SlotUse) → AreApart (outs_of ss) → (a : ℕ) (s : SlotUse) (k n : ℕ) → slice_get ss a ≡ Some s → slice_get s.out k ≡ Some n → search_from ram j ss n ≡ Some (SlotOut ram (j + a) k)
search_found ram j [] apart a s k n h g = cc
search_found ram j (q ∷ ss) apart zero s k n h g =
    let here : slice_get q.out k ≡ Some n = subst (λ (r : SlotUse). slice_get r.out k ≡ Some n) (sym (same_Some q s h)) g in
    let z : j ≡ j + 0 = omega arith in
    ap (λ o. found_in ram j o (search_from ram (j + 1) ss n)) (place_found q.out (left_apart q.out (outs_of ss) apart) k n here) ∙ ap (λ i. Some (SlotOut ram i k)) z
search_found ram j (q ∷ ss) apart (suc a) s k n h g =
    let z : j + 1 + a ≡ j + suc a = omega arith in
    ap (λ o. found_in ram j o (search_from ram (j + 1) ss n)) (place_missing q.out n (λ e. cross_apart q.out (outs_of ss) n apart e (has_out ss a s n h (k, g))))
    ∙ search_found ram (j + 1) ss (right_apart q.out (outs_of ss) apart) a s k n h g ∙ ap (λ i. Some (SlotOut ram i k)) z

search_missing : (ram j : ℕ) (ss : List SlotUse) (n : ℕ) → (Has (outs_of ss) n → ⊥) → search_from ram j ss n ≡ None
search_missing ram j [] n h = refl
search_missing ram j (q ∷ ss) n h =
    ap (λ o. found_in ram j o (search_from ram (j + 1) ss n)) (place_missing q.out n (λ e. h (has_left q.out (outs_of ss) n e)))
    ∙ search_missing ram (j + 1) ss n (λ e. h (has_right q.out (outs_of ss) n e))

-- ---- the drivers of the new module

abbrev choose : Option Driver → Driver → Driver
choose None d = d
choose (Some e) d = e

-- memories behind the one that is taken out move down
abbrev moved : ℕ → Driver → Driver
moved i Free = Free
moved i (Input k) = Input k
moved i (CombOut a k) = CombOut a k
moved i (RegOut a k) = RegOut a k
moved i (ReadOut a j k) = ReadOut (cond (nat_lt a i) a (a - 1)) j k
moved i (SlotOut a j k) = SlotOut a j k

module _ (m : Module) (i : ℕ) (cell : RamCell) (nets : ℕ) (old : HasOneDriver m) (apart : AreApart (outs_of cell.slots)) where
  abbrev driver : ℕ → Driver
  driver n = choose (search_from (length m.rams) 0 cell.slots n) (moved i (old.driver n))

  still : (n : ℕ) (d : Driver) → (Has (outs_of cell.slots) n → ⊥) → old.driver n ≡ d → driver n ≡ moved i d
  still n d none is = ap (λ o. choose o (moved i (old.driver n))) (search_missing (length m.rams) 0 cell.slots n none) ∙ ap (moved i) is

  moved_to : (l a j k : ℕ) → (l ≡ i → ⊥) → (l < i → a ≡ l) → (i < l → l ≡ suc a) → moved i (ReadOut l j k) ≡ ReadOut a j k
  moved_to l a j k off below above = elim (either_side l i off) [
    | inl lt ↦ let e : nat_lt l i ≡ true = grind (arith, lt) in ap (λ b. ReadOut (cond b l (l - 1)) j k) e ∙ ap (λ q. ReadOut q j k) (sym (below lt))
    | inr lt ↦ let e : nat_lt l i ≡ false = grind (arith, lt) in let z : l - 1 ≡ a = let q = above lt in omega (arith, q) in ap (λ b. ReadOut (cond b l (l - 1)) j k) e ∙ ap (λ q. ReadOut q j k) z
  ]

  -- a net that the cell drives was driven by the memory, or is new
  pub one_driver : ((n : ℕ) → n < m.nets → ((k : ℕ) → old.driver n ≡ ReadOut i 0 k → ⊥) → Has (outs_of cell.slots) n → ⊥)
      → ((k n : ℕ) → slice_get (inputs_of m) k ≡ Some n → n < m.nets) → ((p : Node) → Has (nodes_of m) p → (n : ℕ) → Drives p n → n < m.nets)
      → HasOneDriver (placed_in m i cell nets)
  one_driver off inputs_low low = record {
    driver = driver;
    inputs = λ k n at. let e = old.inputs k n at in still n (Input k) (off n (inputs_low k n at) (λ l h. cc)) e;
    combs = λ a y at k n g. let e = old.combs a y at k n g in still n (CombOut a k) (off n (low (comb_node y) (comb_there m y (a, at)) n (k, g)) (λ l h. cc)) e;
    regs = λ a y at k n g. let e = old.regs a y at k n g in still n (RegOut a k) (off n (low (reg_node y) (reg_there m y (a, at)) n (k, g)) (λ l h. cc)) e;
    reads = λ a y at j r h k n g.
        let (l, lat, lapart, lbelow, labove) = removed m.mems i a y at in
        let e = old.reads l y lat j r h k n g in
        still n (ReadOut l j k) (off n (low (read_node r) (read_there m y r (l, lat) (j, h)) n (k, g)) (λ q f. lapart (cc))) e ∙ moved_to l a j k lapart lbelow labove;
    slots = λ a y at j s h k n g. elim (get_joined m.rams (cell ∷ []) a y at) [
      | inl there ↦ let e = old.slots a y there j s h k n g in still n (SlotOut a j k) (off n (low (slot_node s) (slot_there m y s (a, there) (j, h)) n (k, g)) (λ l f. cc)) e
      | inr (l, is, there) ↦ own l y a is there j s h k n g
    ];
  }
    where
      own : (l : ℕ) (y : RamCell) (a : ℕ) → a ≡ length m.rams + l → slice_get (cell ∷ []) l ≡ Some y → (j : ℕ) (s : SlotUse) → slice_get y.slots j ≡ Some s → (k n : ℕ) → slice_get s.out k ≡ Some n → driver n ≡ SlotOut a j k
      own (suc l) y a is there j s h k n g = cc
      own zero y a is there j s h k n g =
          let same : cell ≡ y = same_Some cell y there in
          let at : slice_get cell.slots j ≡ Some s = subst (λ (r : RamCell). slice_get r.slots j ≡ Some s) (sym same) h in
          let z : 0 + j ≡ j = omega arith in
          let q : length m.rams ≡ a = omega (arith, is) in
          ap (λ o. choose o (moved i (old.driver n))) (search_found (length m.rams) 0 cell.slots apart j s k n at g) ∙ (λ t. SlotOut (q t) (z t) k)
