-- The module with the cell of a plain choice in a memory's place is valid where the module is.
use Rattle.std.proofs.Common.{◌≡◌, ℕ, zero, suc, ◌+◌, ◌<◌, ◌≤◌, ◌⊎◌, inl, inr, true, false, List, [], ◌∷◌, ◌++◌, length, Option, Some, None, sym, ap, ◌∙◌, subst, arith}
use Rattle.std.specs.Prelude.{slice_get}
use Rattle.std.specs.List.{flat_map}
use Rattle.std.proofs.lemmas.Option.{same_Some}
use Rattle.std.proofs.lemmas.List.Edits.{length-remove}
use Rattle.std.proofs.lemmas.List.{length-append}
use Rattle.lib_core.specs.declared.library.EdgeKind.{EdgeKind}
use Rattle.lib_core.specs.declared.library.EdgeKind.TheVariants.{Pos, Neg, Either}
use Rattle.lib_core.specs.declared.library.Library.{Library}
use Rattle.lib_core.specs.declared.library.Variant.{Variant}
use Rattle.net_core.specs.declared.bits.Bit.TheVariants.{Net}
use Rattle.net_core.specs.declared.bits.Clock.{Clock}
use Rattle.net_core.specs.declared.bits.Clock.TheVariants.{Root, Never}
use Rattle.net_core.specs.declared.mems.Mem.{Mem}
use Rattle.net_core.specs.declared.mems.MemJob.{MemJob}
use Rattle.net_core.specs.declared.modules.Module.{Module}
use Rattle.net_core.specs.declared.rams.RamCell.{RamCell}
use Rattle.net_core.specs.declared.rams.SlotUse.{SlotUse}
use Rattle.net_core.specs.Drivers.{ReadOut, HasOneDriver}
use Rattle.net_core.specs.Nodes.{Node, read_node, slot_node, nodes_of, HasNet, Drives}
use Rattle.net_core.specs.Pins.{carried_bits, mem_bits, ram_bits, inner_bits, all_bits}
use Rattle.net_core.specs.Ports.{Interface, wire_bits}
use Rattle.net_core.specs.Ram.{slots_of}
use Rattle.net_core.specs.Runs.{variant_of, ReadsAgree}
use Rattle.net_core.specs.Valid.{AreApart, Each, EdgeFits, HasInverter, RamFits, InoutsApart, IsValid}
use Rattle.net_core.proofs.Basics.{get_joined, get_below}
use Rattle.geom_core.specs.declared.candidates.RamChoice.{RamChoice}
use Rattle.fit_rules.specs.Fits.{variant_at}
use Rattle.fit_rules.proofs.Chosen.{variant_limits}
use Rattle.ram_emit.specs.Cell.{uses_from, nets_from, cell_of, cell_in, nets_in, plain_cell, new_nets}
use Rattle.ram_emit.specs.Placing.{placed_in, in_place, CanPlace, HasRoom, PlacedIsValid}
use Rattle.ram_emit.proofs.Given.{PlainParts, plain_parts, some_plain}
use Rattle.ram_emit.proofs.Shows.{read_here, read_only, write_only, spots_apart}
use Rattle.ram_emit.proofs.Agreeing.{plain_cell_fits}
use Rattle.ram_emit.proofs.Fitting.{uses_length}
use Rattle.ram_emit.proofs.Simulated.{old_clock}
use Rattle.ram_emit.proofs.Placed.{Has, has_left, has_right, has_either, removed_has}
use Rattle.ram_emit.proofs.Apart.{removed_apart}
use Rattle.ram_emit.proofs.NodePlaces.{read_there, node_cases}
use Rattle.ram_emit.proofs.Outs.{OutsAre, outs_of, outs_are, outs_apart, outs_where}
use Rattle.ram_emit.proofs.Driving.{has_out, one_driver}
use Rattle.ram_emit.proofs.CellBits.{cell_reads, inside_old}
use Rattle.ram_emit.proofs.Counts.{silent_few, names_apart}
use Rattle.ram_emit.proofs.Wires.{inputs_there, inout_there, pins_there}

-- inverters stay
same_inverter : (m : Module) (i : ℕ) (cell : RamCell) (nets net : ℕ) → HasInverter m net → HasInverter (placed_in m i cell nets) net
same_inverter m i cell nets net h = record { number = h.number; cell = h.cell; place = h.place; stands = h.stands; inverts = h.inverts; read = h.read; within = h.within }

same_edge : (m : Module) (i : ℕ) (cell : RamCell) (nets : ℕ) (e : Option EdgeKind) (c : Clock) → EdgeFits m e c → EdgeFits (placed_in m i cell nets) e c
same_edge m i cell nets None c h = tt
same_edge m i cell nets (Some Pos) Never h = tt
same_edge m i cell nets (Some Pos) (Root n true) h = tt
same_edge m i cell nets (Some Pos) (Root n false) h = same_inverter m i cell nets n h
same_edge m i cell nets (Some Neg) Never h = tt
same_edge m i cell nets (Some Neg) (Root n true) h = same_inverter m i cell nets n h
same_edge m i cell nets (Some Neg) (Root n false) h = tt
same_edge m i cell nets (Some Either) c h = tt

same_ram : (lib : Library) (m : Module) (i : ℕ) (cell : RamCell) (nets : ℕ) (y : RamCell) → RamFits lib m y → RamFits lib (placed_in m i cell nets) y
same_ram lib m i cell nets y h = record {
  name = h.name;
  shape = h.shape;
  slots = h.slots;
  init = h.init;
  edges = λ x v j s at. same_edge m i cell nets s.kind.edge s.pins.clock (h.edges x v j s at);
}

module _ (lib : Library) (modules : List Interface) (m : Module) (i : ℕ) (job : MemJob) (c : RamChoice) (name : List ℕ) (can : CanPlace lib m i job c) (room : HasRoom lib m job.mem c name) (valid : IsValid lib modules m) (x : Variant) (there : variant_at lib c.ram c.variant ≡ Some x) where
  abbrev cell : RamCell
  cell = plain_cell lib job.mem c name m.nets

  abbrev nets : ℕ
  nets = new_nets lib job.mem c

  abbrev new : Module
  new = in_place lib m i job.mem c name

  parts : PlainParts job.mem c x
  parts = plain_parts lib job c x can.limits can.valid can.plain there

  made : cell ≡ cell_of x job.mem c name m.nets
  made = ap (λ o. cell_in o job.mem c name m.nets) there

  counted : nets ≡ nets_from x job.mem c 0 x.groups
  counted = ap (λ o. nets_in o job.mem c) there

  fits : RamFits lib new cell
  fits = (plain_cell_fits lib job c name m.nets can.limits can.valid can.plain room.named).0 new

  last_is : (k : ℕ) (y : RamCell) → slice_get (cell ∷ []) k ≡ Some y → cell ≡ y
  last_is zero y h = same_Some cell y h
  last_is (suc k) y h = cc

  rams_fit : Each new.rams (RamFits lib new)
  rams_fit k y at = elim (get_joined m.rams (cell ∷ []) k y at) [
    | inl old ↦ same_ram lib m i cell nets y (valid.rams k y old)
    | inr (l, e, own) ↦ subst (RamFits lib new) (last_is l y own) fits
  ]

  rams_agree : ReadsAgree lib new
  rams_agree k y at v h j s g = elim (get_joined m.rams (cell ∷ []) k y at) [
    | inl old ↦ valid.reads_agree k y old v h j s g
    | inr (l, e, own) ↦
        let same = last_is l y own in
        (plain_cell_fits lib job c name m.nets can.limits can.valid can.plain room.named).1 v (ap (variant_of lib) same ∙ h) j s (subst (λ (r : RamCell). slice_get (slots_of v r) j ≡ Some s) (sym same) g)
  ]

  -- ---- nets

  low : (p : Node) → Has (nodes_of m) p → (n : ℕ) → Drives p n → n < m.nets
  low p (k, at) n d = valid.driven_nets k p at n d

  read_at : slice_get job.mem.reads 0 ≡ Some parts.read
  read_at = ap (λ rs. slice_get rs 0) parts.reads

  read_stands : Has (nodes_of m) (read_node parts.read)
  read_stands = read_there m job.mem parts.read (i, can.there) (0, read_at)

  read_apart : AreApart parts.read.out
  read_apart k l n h g =
      let a = valid.driven.reads i job.mem can.there 0 parts.read read_at k n h in
      let b = valid.driven.reads i job.mem can.there 0 parts.read read_at l n g in
      same_place k l (sym a ∙ b)
    where
      same_place : (k l : ℕ) → ReadOut i 0 k ≡ ReadOut i 0 l → k ≡ l
      same_place k l e = cc

  read_low : (n : ℕ) → Has parts.read.out n → n < m.nets
  read_low n h = low (read_node parts.read) read_stands n h

  outs_here : OutsAre (outs_of (uses_from x job.mem c 0 x.groups m.nets)) parts.read.out m.nets (nets_from x job.mem c 0 x.groups)
  outs_here =
      outs_are x job.mem c parts.read parts.spot (read_here job.mem c x parts) (write_only job.mem c x parts parts.spot (spots_apart job.mem c x parts)) (read_only job.mem c x parts) x.groups 0 m.nets parts.spot parts.shows.group parts.shows.there (omega arith) parts.shows.names

  outs : OutsAre (outs_of cell.slots) parts.read.out m.nets (nets_from x job.mem c 0 x.groups)
  outs = subst (λ (r : RamCell). OutsAre (outs_of r.slots) parts.read.out m.nets (nets_from x job.mem c 0 x.groups)) (sym made) outs_here

  driven_here : (n : ℕ) → Has (outs_of cell.slots) n → Has parts.read.out n ⊎ ((m.nets ≤ n) × (n < m.nets + nets_from x job.mem c 0 x.groups))
  driven_here n h = outs_where (outs_of cell.slots) parts.read.out m.nets (nets_from x job.mem c 0 x.groups) outs n h

  off : (n : ℕ) → n < m.nets → ((k : ℕ) → valid.driven.driver n ≡ ReadOut i 0 k → ⊥) → Has (outs_of cell.slots) n → ⊥
  off n few none h = elim (driven_here n h) [
    | inl (k, at) ↦ none k (valid.driven.reads i job.mem can.there 0 parts.read read_at k n at)
    | inr r ↦ absurd (omega (arith, few, r.0))
  ]

  new_driven : HasOneDriver new
  new_driven =
      one_driver m i cell nets valid.driven (outs_apart (outs_of cell.slots) parts.read.out m.nets (nets_from x job.mem c 0 x.groups) outs read_apart read_low) off
      (λ k n at. valid.nets n (inputs_there m n (k, at))) low

  slot_out : (s : SlotUse) (n : ℕ) → Has cell.slots s → Drives (slot_node s) n → Has (outs_of cell.slots) n
  slot_out s n (j, at) d = has_out cell.slots j s n at d

  new_low : (k : ℕ) (p : Node) → slice_get (nodes_of new) k ≡ Some p → (n : ℕ) → Drives p n → n < new.nets
  new_low k p at n d = elim (node_cases m i cell nets p (k, at)) [
    | inl old ↦ let few = low p old n d in omega (arith, few)
    | inr (s, inside, is) ↦ elim (driven_here n (slot_out s n inside (subst (λ (q : Node). Drives q n) (sym is) d))) [
      | inl own ↦ let few = read_low n own in omega (arith, few)
      | inr r ↦ let few = r.1 in omega (arith, few, counted)
    ]
  ]

  cell_inside : (n : ℕ) → HasNet (ram_bits cell) n → HasNet (mem_bits job.mem) n
  cell_inside n h = cell_reads job.mem c x parts can.valid m.nets name n (subst (λ (r : RamCell). HasNet (ram_bits r) n) made h)

  inside : (n : ℕ) → HasNet (inner_bits new) n → HasNet (inner_bits m) n
  inside n h = inside_old m i job.mem cell nets n can.there cell_inside h

  new_nets_low : (n : ℕ) → HasNet (all_bits new) n → n < new.nets
  new_nets_low n h =
      let wires = wire_bits m.wires in
      let carried = flat_map carried_bits m.carried in
      let old : HasNet (all_bits m) n = elim (has_either wires (carried ++ inner_bits new) (Net n) h) [
        | inl a ↦ has_left wires (carried ++ inner_bits m) (Net n) a
        | inr b ↦ has_right wires (carried ++ inner_bits m) (Net n) (elim (has_either carried (inner_bits new) (Net n) b) [
          | inl a ↦ has_left carried (inner_bits m) (Net n) a
          | inr a ↦ has_right carried (inner_bits m) (Net n) (inside n a)
        ])
      ] in
      let few = valid.nets n old in
      omega (arith, few)

  -- a net that no node drove, and that stands in the old module, no node drives
  undriven : (n : ℕ) → n < m.nets → ((k : ℕ) (p : Node) → slice_get (nodes_of m) k ≡ Some p → Drives p n → ⊥) → (k : ℕ) (p : Node) → slice_get (nodes_of new) k ≡ Some p → Drives p n → ⊥
  undriven n few none k p at d = elim (node_cases m i cell nets p (k, at)) [
    | inl (l, old) ↦ none l p old d
    | inr (s, inside, is) ↦ elim (driven_here n (slot_out s n inside (subst (λ (q : Node). Drives q n) (sym is) d))) [
      | inl own ↦ let (l, stands) = read_stands in none l (read_node parts.read) stands own
      | inr r ↦ absurd (omega (arith, few, r.0))
    ]
  ]

  new_inouts : InoutsApart modules new
  new_inouts = record {
    nets = valid.inouts.nets;
    wires = valid.inouts.wires;
    pins = valid.inouts.pins;
    undriven_wires = λ n k p h at d. undriven n (valid.nets n (inout_there m n h)) (λ l q old e. valid.inouts.undriven_wires n l q h old e) k p at d;
    undriven_pins = λ n k p h at d. undriven n (valid.nets n (pins_there m modules n h)) (λ l q old e. valid.inouts.undriven_pins n l q h old e) k p at d;
    wires_inside = λ n h g. valid.inouts.wires_inside n h (inside n g);
    pins_inside = λ n h g. valid.inouts.pins_inside n h (inside n g);
  }

  -- ---- counts

  few_slots : length cell.slots ≤ 32
  few_slots =
      let limits = variant_limits lib c.ram c.variant x can.limits there in
      let few = uses_length x parts.variant.byte job.mem c x.groups 0 m.nets 8 limits.names in
      subst (λ (r : RamCell). length r.slots ≤ 32) (sym made) (omega (arith, few, limits.groups))

  named : cell.name ≡ name
  named = ap (λ (r : RamCell). r.name) made

  is_valid : IsValid lib modules new
  is_valid = record {
    name = valid.name;
    attrs = valid.attrs;
    wires = valid.wires;
    declared = valid.declared;
    parts = valid.parts;
    mems = λ k y at. let (l, old) = removed_has m.mems i y (k, at) in valid.mems l y old;
    combs = valid.combs;
    regs = valid.regs;
    rams = rams_fit;
    reads_agree = rams_agree;
    carried = valid.carried;
    wire_names = valid.wire_names;
    mem_names = removed_apart (λ (y : Mem). y.name) m.mems i valid.mem_names;
    cell_names = names_apart m i cell nets valid.cell_names (λ (k, at). room.fresh k (at ∙ ap Some named));
    nets = new_nets_low;
    driven = new_driven;
    driven_nets = new_low;
    inouts = new_inouts;
    clocks = λ k net rising at. let (l, old) = old_clock lib m i job c name can net rising (k, at) in valid.clocks l net rising old;
    net_count = room.nets;
    silent = let few = silent_few m i cell nets in let slots = few_slots in let silent = room.silent in omega (arith, few, slots, silent);
    counted = record {
      wires = valid.counted.wires;
      declared = valid.counted.declared;
      parts = valid.counted.parts;
      mems = let before = valid.counted.mems in let fewer = length-remove m.mems i (get_below m.mems i job.mem can.there) in omega (arith, before, fewer);
      combs = valid.counted.combs;
      regs = valid.counted.regs;
      rams = let few = room.rams in omega (arith, few, length-append m.rams (cell ∷ []));
      carried = valid.counted.carried;
    };
  }

pub placed_is_valid : PlacedIsValid
placed_is_valid lib modules m i job c name can room valid =
    let (x, there) = some_plain (variant_at lib c.ram c.variant) can.plain.variant in
    is_valid lib modules m i job c name can room valid x there
