-- A register over new nets.
use Rattle.std.proofs.Common.{◌≡◌, ℕ, zero, suc, ◌+◌, ◌-◌, ◌<◌, ◌≤◌, inl, inr, Bool, true, false, cond, not, ◌&&◌, List, [], ◌∷◌, ◌++◌, length, Some, refl, sym, ap, ◌∙◌, subst, arith, append-nil}
use Rattle.std.specs.Prelude.{slice_get}
use Rattle.std.proofs.lemmas.Option.{same_Some}
use Rattle.lib_core.specs.declared.library.Tri.{Tri}
use Rattle.lib_core.specs.Rams.{tri_at}
use Rattle.net_core.specs.declared.bits.Bit.TheVariants.{Zero}
use Rattle.net_core.specs.declared.cells.Reg.{Reg}
use Rattle.net_core.specs.declared.modules.Module.{Module}
use Rattle.net_core.specs.Drivers.{HasOneDriver}
use Rattle.net_core.specs.Nodes.{Node, comb_node, reg_node, read_node, slot_node, nodes_of, HasNet, Drives, Rises, Ordered, NetsWithin}
use Rattle.net_core.specs.Ports.{inputs_of}
use Rattle.net_core.specs.Values.{value_of, tri_of, Agrees, same_bool, has_edge}
use Rattle.net_core.proofs.Ordering.{comb_place, reg_place, read_place, slot_place}
use Rattle.net_core.proofs.Searching.{get_pushed}
use Rattle.net_edit.specs.Edits.{Editing, nets_from, bits_from, with_nets, with_reg, with_fresh, AddsReg}
use Rattle.net_edit.specs.Laws.{IsUndriven, IsKnownClock}
use Rattle.net_edit.specs.Ranks.{height}
use Rattle.net_edit.proofs.Adding.{added_reg_has_one_driver, added_reg_is_within}
use Rattle.net_edit.proofs.Heights.{height_least}
use Rattle.net_edit.proofs.Lists.{last_at}
use Rattle.net_edit.proofs.Ranges.{range_at, range_below}
use Rattle.net_gates.specs.Adds.{Grows, IsWithin, Places}
use Rattle.net_gates.specs.declared.registers.RegPins.{RegPins}
use Rattle.net_gates.specs.Registers.{reg_cell, with_register, after, Remembers, AddsRegister}
use Rattle.net_gates.proofs.NewCell.{new_net, new_rank, rank_old, rank_new, old_rises, agrees_told}

no_net : (n : ℕ) → HasNet (Zero ∷ []) n → ⊥
no_net n (zero, h) = cc
no_net n (suc k, h) = cc

-- the step of the register, in the words of its kind
step_is : (edge rst en d q kept : Bool) (value : Tri) → kept ≡ q → cond (not edge) (tri_of kept) (cond (same_bool rst true && true) value (cond (same_bool en true) (tri_of d) (tri_of kept))) ≡ cond (not edge) (tri_of q) (cond rst value (cond en (tri_of d) (tri_of q)))
step_is edge true true d q kept value e = (λ i. cond (not edge) (tri_of (e i)) value)
step_is edge true false d q kept value e = (λ i. cond (not edge) (tri_of (e i)) value)
step_is edge false true d q kept value e = (λ i. cond (not edge) (tri_of (e i)) (tri_of d))
step_is edge false false d q kept value e = (λ i. cond (not edge) (tri_of (e i)) (tri_of (e i)))

module _ (m : Module) (name : List ℕ) (p : RegPins) (within : IsWithin m) (known : IsKnownClock m p.clock) where
  abbrev width : ℕ
  width = length p.d

  abbrev nets : List ℕ
  nets = nets_from m.nets width

  abbrev cell : Reg
  cell = reg_cell name p nets

  abbrev made : Module
  made = with_reg (with_nets m width) cell

  own_new : (n : ℕ) → Drives (reg_node cell) n → (m.nets ≤ n) × (n < m.nets + width)
  own_new n (k, at) =
      let e = range_at m.nets width k n at in
      let l = range_below m.nets width k n at in
      (omega (arith, e), omega (arith, e, l))

  undriven : (n : ℕ) → m.nets ≤ n → IsUndriven (with_nets m width) n
  undriven n high = record {
    inputs = λ k at. let l = within.inputs k n at in omega (arith, l, high);
    nodes = λ i q at d. let l = within.nodes.drives i q at n d in omega (arith, l, high);
  }

  still_one : HasOneDriver m → HasOneDriver made
  still_one one = added_reg_has_one_driver (with_nets m width) cell
      (record { driver = one.driver; inputs = one.inputs; combs = one.combs; regs = one.regs; reads = one.reads; slots = one.slots })
      (λ k n at. undriven n (own_new n (k, at)).0)
      (λ i j n hi hj. let a = range_at m.nets width i n hi in let b = range_at m.nets width j n hj in omega (arith, a, b))

  nets_within : NetsWithin (with_nets m width)
  nets_within = record {
    drives = λ i q at n d. let l = within.nodes.drives i q at n d in omega (arith, l);
    needs = λ i q at n d. let l = within.nodes.needs i q at n d in omega (arith, l);
  }

  still_within : IsWithin made
  still_within = record {
    nodes = added_reg_is_within (with_nets m width) cell nets_within (record {
      drives = λ n d. (own_new n d).1;
      needs = λ n h. absurd (no_net n h);
    });
    inputs = λ k n at. let l = within.inputs k n at in omega (arith, l);
  }

  module _ (o : Ordered m) where
    abbrev rank : ℕ → ℕ
    rank = new_rank o.rank m.nets 0

    keeps : (i : ℕ) (q : Node) → slice_get (nodes_of m) i ≡ Some q → Rises o.rank q → Rises rank q
    keeps i q at rise = old_rises o.rank m.nets 0 q (within.nodes.drives i q at) (within.nodes.needs i q at) rise

    near_top : height rank (bits_from m.nets width) ≤ 0 + (m.nets + width - m.nets)
    near_top = height_least rank (bits_from m.nets width) (0 + (m.nets + width - m.nets)) (λ n h.
        let (low, high) = new_net m.nets width n h in
        let e = rank_new o.rank m.nets 0 n low in
        omega (arith, e, low, high))

    places : Places m made [] (bits_from m.nets width) o
    places = record {
      order = record {
        rank = rank;
        combs = λ i c at. let (k, there) = comb_place m i c at in keeps k (comb_node c) there (o.combs i c at);
        regs = λ i r at. elim (get_pushed m.regs cell r i at) [
          | inl old ↦ (let (k, there) = reg_place m i r old in keeps k (reg_node r) there (o.regs i r old))
          | inr (e, is) ↦ subst (λ z. Rises rank (reg_node z)) is (λ n x d h. absurd (no_net x h))
        ];
        reads = λ i x at j r h. let (k, there) = read_place m i x at j r h in keeps k (read_node r) there (o.reads i x at j r h);
        slots = λ i c at j q h. let (k, there) = slot_place m i c at j q h in keeps k (slot_node q) there (o.slots i c at j q h);
      };
      same = λ n l. rank_old o.rank m.nets 0 n l;
      near = near_top;
    }

  one_known : (i : ℕ) (r : Reg) → slice_get (cell ∷ []) i ≡ Some r → IsKnownClock m r.clock
  one_known zero r at = subst (λ (z : Reg). IsKnownClock m z.clock) (same_Some cell r at) known
  one_known (suc i) r at = cc

  grown : Grows m made
  grown = record {
    more_combs = [];
    more_regs = cell ∷ [];
    combs = sym (append-nil m.combs);
    regs = refl;
    clocks = one_known;
    nets = omega arith;
    name = refl;
    attrs = refl;
    wires = refl;
    declared = refl;
    parts = refl;
    mems = refl;
    rams = refl;
    carried = refl;
  }

  remembers : Remembers made p nets
  remembers = record {
    starts = λ lib events v run e at k n there.
        let allows = run.regs (length m.regs) cell (last_at m.regs cell) in
        let shown = agrees_told (allows.kept 0 k) (v 0 n) (allows.shows 0 e at k n there) in
        subst (Agrees (tri_at p.init k)) (sym shown) (allows.starts k);
    steps = λ lib events v run t e next at then k q d there here.
        let allows = run.regs (length m.regs) cell (last_at m.regs cell) in
        let now = agrees_told (allows.kept t k) (v t q) (allows.shows t e at k q there) in
        let later = agrees_told (allows.kept (suc t) k) (v (suc t) q) (allows.shows (suc t) next then k q there) in
        let step = allows.steps t e at k q d there here in
        let is = step_is (has_edge (inputs_of made) e.edge p.clock) (value_of (v t) p.rst) (value_of (v t) p.en) (value_of (v t) d) (v t q) (allows.kept t k) (tri_at p.value k) (sym now) in
        subst (Agrees (after (inputs_of made) p e (v t) k q d)) (sym later) (subst (λ z. Agrees z (allows.kept (suc t) k)) is step);
  }

pub register_adds : (old new : Editing) (name : List ℕ) (p : RegPins) → new ≡ with_register old name p → IsWithin old.netlist → IsKnownClock old.netlist p.clock → AddsRegister old new p
register_adds old new name p added within known =
    let m = old.netlist in
    let e : length p.d ≡ m.nets + length p.d - m.nets = omega arith in
    let all : AddsRegister old (with_register old name p) p = record {
      extends = record {
        grows = grown m name p within known;
        reads = ap (λ w. old.reads ++ bits_from m.nets w) e;
        within = still_within m name p within known;
        below = λ n h. (new_net m.nets (length p.d) n h).1;
        drivers = still_one m name p within known;
        places = λ o. places m name p within known o;
      };
      remembers = remembers m name p within known;
    } in
    subst (λ n. AddsRegister old n p) (sym added) all

-- what the calls that make it give
pub register_added : (old mid new : Editing) (p : RegPins) (given q : List ℕ) (none : List Tri) (count : ℕ) → count ≡ length p.d → none ≡ [] → mid ≡ with_fresh old count → q ≡ nets_from old.netlist.nets count → AddsReg mid new (record (reg_cell given p q) { arst_value = none }) → IsWithin old.netlist → IsKnownClock old.netlist p.clock → AddsRegister old new p
register_added old mid new p given q none count wide empty fresh is adds within known =
    let there : mid ≡ with_fresh old (length p.d) = fresh ∙ ap (with_fresh old) wide in
    let nets : q ≡ nets_from old.netlist.nets (length p.d) = is ∙ ap (nets_from old.netlist.nets) wide in
    register_adds old new adds.name p (adds.added ∙ (λ i. record { netlist = with_reg (there i).netlist (record (reg_cell adds.name p (nets i)) { arst_value = empty i }); reads = (there i).reads })) within known
