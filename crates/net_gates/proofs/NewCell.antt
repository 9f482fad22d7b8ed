-- A logic cell over new nets.
use Rattle.std.proofs.Common.{◌≡◌, ℕ, zero, suc, ◌+◌, ◌-◌, ◌<◌, ◌≤◌, inl, inr, Bool, true, false, cond, List, [], ◌∷◌, ◌++◌, map, length, Some, refl, sym, ap, ◌∙◌, subst, arith, append-nil, nat_lt}
use Rattle.std.specs.Prelude.{slice_get}
use Rattle.std.specs.List.{range_with_len}
use Rattle.std.proofs.lemmas.Bool.Decides.{nat_tests}
use Rattle.lib_core.specs.declared.library.Library.{Library}
use Rattle.net_core.specs.declared.bits.Bit.{Bit}
use Rattle.net_core.specs.declared.bits.Bit.TheVariants.{Net}
use Rattle.net_core.specs.declared.cells.Comb.{Comb}
use Rattle.net_core.specs.declared.cells.CombKind.{CombKind}
use Rattle.net_core.specs.declared.modules.Module.{Module}
use Rattle.net_core.specs.Drivers.{HasOneDriver}
use Rattle.net_core.specs.Logic.{row_bit}
use Rattle.net_core.specs.Nodes.{Node, comb_node, reg_node, read_node, slot_node, nodes_of, HasNet, Drives, Rises, Ordered, NetsWithin}
use Rattle.net_core.specs.Runs.{Run}
use Rattle.net_core.specs.Values.{Valuation, Wave, Happening, At, values_of, tri_of, Agrees}
use Rattle.net_core.proofs.Ordering.{comb_place, reg_place, read_place, slot_place}
use Rattle.net_core.proofs.Searching.{get_pushed}
use Rattle.net_edit.specs.Edits.{Editing, as_bits, nets_from, bits_from, with_nets, with_comb, with_fresh, AddsComb}
use Rattle.net_edit.specs.Laws.{IsUndriven}
use Rattle.net_edit.specs.Ranks.{height, BitsBelow}
use Rattle.net_edit.proofs.Adding.{added_comb_has_one_driver, added_comb_is_within}
use Rattle.net_edit.proofs.Heights.{height_at, height_least}
use Rattle.net_edit.proofs.Lists.{has_none, last_at}
use Rattle.net_edit.proofs.Ranges.{range_at, range_below}
use Rattle.net_gates.specs.Adds.{Grows, IsWithin, Places, Adds, IsReady}
use Rattle.net_gates.specs.Cells.{logic_cell, with_logic, AddsLogic}

-- ---- new nets

pub range_length : (a n : ℕ) → length (range_with_len a n) ≡ n
range_length a zero = refl
range_length a (suc n) = ap suc (range_length (a + 1) n)

bit_net : (ns : List ℕ) (k n : ℕ) → slice_get (as_bits ns) k ≡ Some (Net n) → slice_get ns k ≡ Some n
bit_net [] k n h = cc
bit_net (x ∷ ns) zero n h = cc
bit_net (x ∷ ns) (suc k) n h = bit_net ns k n h

-- a new net stands at its place
pub new_net : (first width n : ℕ) → HasNet (bits_from first width) n → (first ≤ n) × (n < first + width)
new_net first width n (k, h) =
    let at = bit_net (nets_from first width) k n h in
    let e = range_at first width k n at in
    let l = range_below first width k n at in
    (omega (arith, e), omega (arith, e, l))

-- the values of new nets that a function of their places tells
values_told : (u : Valuation) (h : ℕ → Bool) (ns : List ℕ) (start : ℕ) → ((k n : ℕ) → slice_get ns k ≡ Some n → u n ≡ h (start + k)) → values_of u (as_bits ns) ≡ map h (range_with_len start (length ns))
values_told u h [] start tells = refl
values_told u h (n ∷ ns) start tells =
    let z : start + 0 ≡ start = omega arith in
    let first : u n ≡ h start = tells 0 n refl ∙ ap h z in
    let rest = values_told u h ns (start + 1) (λ k m at. tells (suc k) m at ∙ (let e : start + suc k ≡ start + 1 + k = omega arith in ap h e)) in
    (λ i. first i ∷ rest i)

pub agrees_told : (b x : Bool) → Agrees (tri_of b) x → x ≡ b
agrees_told true x h = h
agrees_told false x h = h

-- ---- ranks

-- new nets have one rank; all others keep theirs
abbrev pub new_rank : (ℕ → ℕ) → ℕ → ℕ → ℕ → ℕ
new_rank rank first top n = cond (nat_lt n first) (rank n) top

pub rank_old : (rank : ℕ → ℕ) (first top n : ℕ) → n < first → new_rank rank first top n ≡ rank n
rank_old rank first top n l = let e : nat_lt n first ≡ true = grind (arith, nat_tests) in ap (λ b. cond b (rank n) top) e

pub rank_new : (rank : ℕ → ℕ) (first top n : ℕ) → first ≤ n → new_rank rank first top n ≡ top
rank_new rank first top n l = let e : nat_lt n first ≡ false = grind (arith, nat_tests) in ap (λ b. cond b (rank n) top) e

-- ranks rise along nodes over old nets as before
pub old_rises : (rank : ℕ → ℕ) (first top : ℕ) (p : Node) → ((n : ℕ) → Drives p n → n < first) → ((n : ℕ) → HasNet p.needs n → n < first) → Rises rank p → Rises (new_rank rank first top) p
old_rises rank first top p drives needs rise n x d h =
    let a = rank_old rank first top x (needs x h) in
    let b = rank_old rank first top n (drives n d) in
    let l = rise n x d h in
    omega (arith, a, b, l)

-- ---- the module with the cell

module _ (m : Module) (name : List ℕ) (kind : CombKind) (a b s : List Bit) (width : ℕ) (within : IsWithin m) (below : BitsBelow m.nets (a ++ b ++ s)) where
  abbrev cell : Comb
  cell = logic_cell name kind a b s (nets_from m.nets width)

  abbrev made : Module
  made = with_comb (with_nets m width) cell

  own_new : (n : ℕ) → Drives (comb_node cell) n → (m.nets ≤ n) × (n < m.nets + width)
  own_new n (k, at) =
      let e = range_at m.nets width k n at in
      let l = range_below m.nets width k n at in
      (omega (arith, e), omega (arith, e, l))

  undriven : (n : ℕ) → m.nets ≤ n → IsUndriven (with_nets m width) n
  undriven n high = record {
    inputs = λ k at. let l = within.inputs k n at in omega (arith, l, high);
    nodes = λ i p at d. let l = within.nodes.drives i p at n d in omega (arith, l, high);
  }

  still_one : HasOneDriver m → HasOneDriver made
  still_one one = added_comb_has_one_driver (with_nets m width) cell
      (record { driver = one.driver; inputs = one.inputs; combs = one.combs; regs = one.regs; reads = one.reads; slots = one.slots })
      (λ k n at. undriven n (own_new n (k, at)).0)
      (λ i j n hi hj. let p = range_at m.nets width i n hi in let q = range_at m.nets width j n hj in omega (arith, p, q))

  nets_within : NetsWithin (with_nets m width)
  nets_within = record {
    drives = λ i p at n d. let l = within.nodes.drives i p at n d in omega (arith, l);
    needs = λ i p at n d. let l = within.nodes.needs i p at n d in omega (arith, l);
  }

  still_within : IsWithin made
  still_within = record {
    nodes = added_comb_is_within (with_nets m width) cell nets_within (record {
      drives = λ n d. (own_new n d).1;
      needs = λ n h. let l = below n h in omega (arith, l);
    });
    inputs = λ k n at. let l = within.inputs k n at in omega (arith, l);
  }

  module _ (o : Ordered m) where
    abbrev top : ℕ
    top = height o.rank (a ++ b ++ s)

    abbrev rank : ℕ → ℕ
    rank = new_rank o.rank m.nets top

    keeps : (i : ℕ) (p : Node) → slice_get (nodes_of m) i ≡ Some p → Rises o.rank p → Rises rank p
    keeps i p at rise = old_rises o.rank m.nets top p (within.nodes.drives i p at) (within.nodes.needs i p at) rise

    cell_rises : Rises rank (comb_node cell)
    cell_rises n x d h =
        let low = rank_old o.rank m.nets top x (below x h) in
        let high = rank_new o.rank m.nets top n (own_new n d).0 in
        let l = height_at o.rank (a ++ b ++ s) x h in
        omega (arith, low, high, l)

    near_top : height rank (bits_from m.nets width) ≤ top + (m.nets + width - m.nets)
    near_top = height_least rank (bits_from m.nets width) (top + (m.nets + width - m.nets)) (λ n h.
        let (low, high) = new_net m.nets width n h in
        let e = rank_new o.rank m.nets top n low in
        omega (arith, e, low, high))

    places : Places m made (a ++ b ++ s) (bits_from m.nets width) o
    places = record {
      order = record {
        rank = rank;
        combs = λ i c at. elim (get_pushed m.combs cell c i at) [
          | inl old ↦ (let (k, there) = comb_place m i c old in keeps k (comb_node c) there (o.combs i c old))
          | inr (e, is) ↦ subst (λ z. Rises rank (comb_node z)) is cell_rises
        ];
        regs = λ i r at. let (k, there) = reg_place m i r at in keeps k (reg_node r) there (o.regs i r at);
        reads = λ i x at j r h. let (k, there) = read_place m i x at j r h in keeps k (read_node r) there (o.reads i x at j r h);
        slots = λ i c at j q h. let (k, there) = slot_place m i c at j q h in keeps k (slot_node q) there (o.slots i c at j q h);
      };
      same = λ n l. rank_old o.rank m.nets top n l;
      near = near_top;
    }

  grown : Grows m made
  grown = record {
    more_combs = cell ∷ [];
    more_regs = [];
    combs = refl;
    regs = sym (append-nil m.regs);
    clocks = λ i r at. absurd (has_none r (i, at));
    nets = omega arith;
    name = refl;
    attrs = refl;
    wires = refl;
    declared = refl;
    parts = refl;
    mems = refl;
    rams = refl;
    carried = refl;
  }

  -- what the cell shows
  shown : (g : Valuation → ℕ → Bool) → ((u : Valuation) (k : ℕ) → k < width → row_bit kind false (values_of u a) (values_of u b) (values_of u s) width k ≡ tri_of (g u k)) → (lib : Library) (events : List Happening) (v : Wave) → Run lib made events v → (t : ℕ) (e : Happening) → At events t e → values_of (v t) (bits_from m.nets width) ≡ map (g (v t)) (range_with_len 0 width)
  shown g row lib events v run t e at =
      let shows = run.combs (length m.combs) cell (last_at m.combs cell) t e at in
      let wide : length (nets_from m.nets width) ≡ width = range_length m.nets width in
      values_told (v t) (g (v t)) (nets_from m.nets width) 0 (λ k n there.
      let here : Agrees (row_bit kind false (values_of (v t) a) (values_of (v t) b) (values_of (v t) s) width k) (v t n) = subst (λ w. Agrees (row_bit kind false (values_of (v t) a) (values_of (v t) b) (values_of (v t) s) w k) (v t n)) wide (shows k n there) in
      let told = agrees_told (g (v t) k) (v t n) (subst (λ z. Agrees z (v t n)) (row (v t) k (range_below m.nets width k n there)) here) in
      let z : k ≡ 0 + k = omega arith in
      told ∙ ap (g (v t)) z)
      ∙ ap (λ n. map (g (v t)) (range_with_len 0 n)) wide

pub logic_adds : (old new : Editing) (kind : CombKind) (a b s : List Bit) (width : ℕ) (g : Valuation → ℕ → Bool) → AddsLogic old new kind a b s width → IsReady old (a ++ b ++ s) → ((u : Valuation) (k : ℕ) → k < width → row_bit kind false (values_of u a) (values_of u b) (values_of u s) width k ≡ tri_of (g u k)) → Adds old new (a ++ b ++ s) (bits_from old.netlist.nets width) (λ u. map (g u) (range_with_len 0 width))
logic_adds old new kind a b s width g logic ready row =
    let m = old.netlist in
    let ys = bits_from m.nets width in
    let made = with_logic old logic.name kind a b s width in
    let e : width ≡ m.nets + width - m.nets = omega arith in
    let all : Adds old made (a ++ b ++ s) ys (λ u. map (g u) (range_with_len 0 width)) = record {
      extends = record {
        grows = grown m logic.name kind a b s width ready.within ready.below;
        reads = ap (λ w. old.reads ++ bits_from m.nets w) e;
        within = still_within m logic.name kind a b s width ready.within ready.below;
        below = λ n h. (new_net m.nets width n h).1;
        drivers = still_one m logic.name kind a b s width ready.within ready.below;
        places = λ o. places m logic.name kind a b s width ready.within ready.below o;
      };
      means = shown m logic.name kind a b s width ready.within ready.below g row;
    } in
    subst (λ n. Adds old n (a ++ b ++ s) ys (λ u. map (g u) (range_with_len 0 width))) (sym logic.added) all

-- what the calls that make the cell give
pub logic_added : (old mid new : Editing) (kind : CombKind) (a b s : List Bit) (width : ℕ) (given y : List ℕ) → mid ≡ with_fresh old width → y ≡ nets_from old.netlist.nets width → AddsComb mid new (logic_cell given kind a b s y) → AddsLogic old new kind a b s width
logic_added old mid new kind a b s width given y fresh is adds = record {
  name = adds.name;
  added = adds.added ∙ (λ i. record { netlist = with_comb (fresh i).netlist (logic_cell adds.name kind a b s (is i)); reads = (fresh i).reads });
}
