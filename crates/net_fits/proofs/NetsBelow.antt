-- Each net of a module that is made of gathered cells has a number of the module.
use Rattle.std.proofs.Common.{◌≡◌, inl, inr, ℕ, zero, suc, ◌≤◌, ◌<◌, Bool, true, false, List, [], ◌∷◌, ◌++◌, map, take, drop, get_or, Some, slice_get, codes, arith}
use Rattle.std.specs.Prelude.{if◌then◌else◌}
use Rattle.std.specs.List.{flat_map}
use Rattle.lib_core.specs.declared.library.Tri.{Tri}
use Rattle.rtlil_text.specs.declared.doc.DocModule.{DocModule}
use Rattle.rtlil_text.specs.declared.doc.Item.{Item}
use Rattle.rtlil_text.specs.declared.doc.Item.TheVariants as item
use Rattle.rtlil_text.specs.Grammar.{All}
use Rattle.net_core.specs.declared.bits.Bit.{Bit}
use Rattle.net_core.specs.declared.bits.Bit.TheVariants as bits
use Rattle.net_core.specs.declared.cells.Carried.{Carried}
use Rattle.net_core.specs.declared.cells.Comb.{Comb}
use Rattle.net_core.specs.declared.cells.Reg.{Reg}
use Rattle.net_core.specs.declared.modules.MemPart.{MemPart}
use Rattle.net_core.specs.declared.rams.RamCell.{RamCell}
use Rattle.net_core.specs.declared.rams.SlotUse.{SlotUse}
use Rattle.net_core.specs.Nodes.{comb_node, Drives, HasNet, Node, nodes_of, ram_nodes, reg_node, slot_node}
use Rattle.net_core.specs.Pins.{all_bits, carried_bits, comb_bits, ram_bits, reg_bits}
use Rattle.net_core.specs.Ports.{bits_of_pins, nets_of, wire_bits}
use Rattle.net_wires.specs.declared.clock.ClockRoot.{ClockRoot}
use Rattle.net_wires.specs.declared.clock.ClockRoot.TheVariants as leads
use Rattle.net_wires.specs.declared.source.Source.{Source}
use Rattle.net_wires.specs.declared.source.Source.TheVariants as source
use Rattle.net_wires.specs.Clocks.{clock_of}
use Rattle.net_wires.specs.Nets.{bit_of, InOrder}
use Rattle.net_gather.specs.declared.gathering.Gathered.{Gathered}
use Rattle.raw_cells.specs.declared.raw.CellShape.{CellShape}
use Rattle.raw_cells.specs.declared.raw.CellShape.TheVariants as shape
use Rattle.raw_cells.specs.declared.raw.RawCell.{RawCell}
use Rattle.raw_cells.specs.declared.raw.RawPin.{RawPin}
use Rattle.raw_cells.specs.Bits.{bit_at, bits_at, bits_of, first_or_zero, sources_at}
use Rattle.net_cells.specs.Cells.{carried_of, comb_of, pins_of, reg_of}
use Rattle.net_cells.specs.Clocks.{bit_by}
use Rattle.net_cells.specs.Parts.{clock_bits, part_of, part_pins}
use Rattle.net_cells.specs.Wires.{wire_of, wires_from}
use Rattle.net_module.specs.Assembly.{carried_by, carried_cells, comb_by, combs_of, module_of, part_by, parts_of, reg_by, regs_of}
use Rattle.net_fits.specs.Rams.{AreRams, EachRamOf, IsBelow, ram_cells}
use Rattle.net_fits.proofs.Lists.{all_flat, all_join, all_map, each_of}

-- ---- bits and nets

in_order : (n : ℕ) (bs : List Bit) (total : ℕ) → InOrder n bs total → (n ≤ total) × All (IsBelow total) bs
in_order n [] total o = (omega (arith, o), tt)
in_order n (bits.Zero ∷ bs) total o = let rest = in_order n bs total o in (rest.0, (tt, rest.1))
in_order n (bits.One ∷ bs) total o = let rest = in_order n bs total o in (rest.0, (tt, rest.1))
in_order n (bits.Net k ∷ bs) total o =
    elim o [
      | inl (less, later) ↦ (let rest = in_order n bs total later in let far : n ≤ total = rest.0 in (far, (omega (arith, less, far), rest.1)))
      | inr (same, later) ↦ (let rest = in_order (suc n) bs total later in let far : suc n ≤ total = rest.0 in (omega (arith, far), (omega (arith, same, far), rest.1)))
    ]

pub places_below : (places : List Bit) (count : ℕ) → InOrder 0 places count → All (IsBelow count) places
places_below places count o = (in_order 0 places count o).1

below_has : (count : ℕ) (bs : List Bit) (n : ℕ) → All (IsBelow count) bs → HasNet bs n → n < count
below_has count bs n all h = each_of (IsBelow count) bs all h.0 (bits.Net n) h.1

get_below : (count : ℕ) (bs : List Bit) (p : ℕ) → All (IsBelow count) bs → IsBelow count (get_or bs p bits.Zero)
get_below count [] p all = tt
get_below count (b ∷ bs) zero all = all.0
get_below count (b ∷ bs) (suc p) all = get_below count bs p all.1

pub nets_below_of : (count : ℕ) (bs : List Bit) → All (IsBelow count) bs → All (λ n. n < count) (nets_of bs)
nets_below_of count [] all = tt
nets_below_of count (bits.Zero ∷ bs) all = nets_below_of count bs all.1
nets_below_of count (bits.One ∷ bs) all = nets_below_of count bs all.1
nets_below_of count (bits.Net n ∷ bs) all = (all.0, nets_below_of count bs all.1)

take_below : (count n : ℕ) (bs : List Bit) → All (IsBelow count) bs → All (IsBelow count) (take n bs)
take_below count zero bs all = tt
take_below count (suc n) [] all = tt
take_below count (suc n) (b ∷ bs) all = (all.0, take_below count n bs all.1)

drop_below : (count n : ℕ) (bs : List Bit) → All (IsBelow count) bs → All (IsBelow count) (drop n bs)
drop_below count zero bs all = all
drop_below count (suc n) [] all = tt
drop_below count (suc n) (b ∷ bs) all = drop_below count n bs all.1

first_below : (count : ℕ) (bs : List Bit) → All (IsBelow count) bs → IsBelow count (first_or_zero bs)
first_below count [] all = tt
first_below count (b ∷ bs) all = all.0

-- ---- parts of the module

module _ (places : List Bit) (count : ℕ) (within : All (IsBelow count) places) (roots : List ClockRoot) (starts : List Tri) where
  source_below : (s : Source) → IsBelow count (bit_of places s)
  source_below source.Zero = tt
  source_below source.One = tt
  source_below source.Loose = tt
  source_below (source.At p) = get_below count places p within

  sources_below : (ss : List Source) → All (IsBelow count) (bits_of places ss)
  sources_below [] = tt
  sources_below (s ∷ ss) = (source_below s, sources_below ss)

  pub at_below : (ps : List RawPin) (name : List ℕ) → All (IsBelow count) (bits_at places ps name)
  at_below ps name = sources_below (sources_at ps name)

  pub first_at : (ps : List RawPin) (name : List ℕ) → IsBelow count (bit_at places ps name)
  first_at ps name = first_below count (bits_at places ps name) (at_below ps name)

  pins_below : (ps : List RawPin) → All (IsBelow count) (bits_of_pins (pins_of places ps))
  pins_below [] = tt
  pins_below (p ∷ ps) = all_join (IsBelow count) (bits_of places p.bits) _ (sources_below p.bits) (pins_below ps)

  by_root : (s : Source) (r : ClockRoot) → IsBelow count (bit_by places s r)
  by_root s leads.Never = tt
  by_root s leads.Unknown = source_below s
  by_root s (leads.Root p flipped) = get_below count places p within

  clocks_below : (ss : List Source) → All (IsBelow count) (clock_bits places roots ss)
  clocks_below [] = tt
  clocks_below (s ∷ ss) = (by_root s (clock_of roots s), clocks_below ss)

  part_case : (t : Bool) (ss : List Source) → All (IsBelow count) (if t then clock_bits places roots ss else bits_of places ss)
  part_case true ss = clocks_below ss
  part_case false ss = sources_below ss

  part_pins_below : (ps : List RawPin) → All (IsBelow count) (bits_of_pins (part_pins places roots ps))
  part_pins_below [] = tt
  part_pins_below (p ∷ ps) = all_join (IsBelow count) _ _ (part_case p.clock p.bits) (part_pins_below ps)

  wires_below : (left : List Bit) (is : List Item) → All (IsBelow count) left → All (IsBelow count) (wire_bits (wires_from left is))
  unfolding wires_from wire_of
  wires_below left [] all = tt
  wires_below left (item.Wire w ∷ is) all = all_join (IsBelow count) (take w.width left) _ (take_below count w.width left all) (wires_below (drop w.width left) is (drop_below count w.width left all))
  wires_below left (item.Param p ∷ is) all = wires_below left is all
  wires_below left (item.Mem m ∷ is) all = wires_below left is all
  wires_below left (item.Cell c ∷ is) all = wires_below left is all
  wires_below left (item.Connect l r ∷ is) all = wires_below left is all

  -- ---- one cell

  comb_below : (name : List ℕ) (s : CellShape) (ps : List RawPin) → All (λ (c : Comb). All (IsBelow count) (comb_bits c)) (comb_by places name s ps)
  unfolding comb_of
  comb_below name (shape.Comb r) ps = (all_join (IsBelow count) _ _ (at_below ps (codes "\\A")) (all_join (IsBelow count) _ _ (at_below ps (codes "\\B")) (at_below ps (codes "\\S"))), tt)
  comb_below name (shape.Reg r) ps = tt
  comb_below name (shape.Carried k) ps = tt
  comb_below name (shape.Memory k r) ps = tt
  comb_below name (shape.Ram u) ps = tt

  reg_below : (name : List ℕ) (s : CellShape) (ps : List RawPin) → All (λ (c : Reg). All (IsBelow count) (reg_bits c)) (reg_by places roots starts name s ps)
  unfolding reg_of
  reg_below name (shape.Comb r) ps = tt
  reg_below name (shape.Reg r) ps = ((first_at ps (codes "\\EN"), (first_at ps (codes "\\ARST"), (first_at ps (codes "\\SRST"), at_below ps (codes "\\D")))), tt)
  reg_below name (shape.Carried k) ps = tt
  reg_below name (shape.Memory k r) ps = tt
  reg_below name (shape.Ram u) ps = tt

  carried_below : (name : List ℕ) (s : CellShape) (ps : List RawPin) → All (λ (c : Carried). All (IsBelow count) (carried_bits c)) (carried_by places name s ps)
  unfolding carried_of
  carried_below name (shape.Comb r) ps = tt
  carried_below name (shape.Reg r) ps = tt
  carried_below name (shape.Carried k) ps = (pins_below ps, tt)
  carried_below name (shape.Memory k r) ps = tt
  carried_below name (shape.Ram u) ps = tt

  part_below : (name : List ℕ) (s : CellShape) (ps : List RawPin) → All (λ (c : MemPart). All (IsBelow count) (bits_of_pins c.pins)) (part_by places roots name s ps)
  unfolding part_of
  part_below name (shape.Comb r) ps = tt
  part_below name (shape.Reg r) ps = tt
  part_below name (shape.Carried k) ps = tt
  part_below name (shape.Memory k r) ps = (part_pins_below ps, tt)
  part_below name (shape.Ram u) ps = tt

  comb_drives : (name : List ℕ) (s : CellShape) (ps : List RawPin) → All (λ (c : Comb). All (λ n. n < count) c.y) (comb_by places name s ps)
  unfolding comb_of
  comb_drives name (shape.Comb r) ps = (nets_below_of count (bits_at places ps (codes "\\Y")) (at_below ps (codes "\\Y")), tt)
  comb_drives name (shape.Reg r) ps = tt
  comb_drives name (shape.Carried k) ps = tt
  comb_drives name (shape.Memory k r) ps = tt
  comb_drives name (shape.Ram u) ps = tt

  reg_drives : (name : List ℕ) (s : CellShape) (ps : List RawPin) → All (λ (c : Reg). All (λ n. n < count) c.q) (reg_by places roots starts name s ps)
  unfolding reg_of
  reg_drives name (shape.Comb r) ps = tt
  reg_drives name (shape.Reg r) ps = (nets_below_of count (bits_at places ps (codes "\\Q")) (at_below ps (codes "\\Q")), tt)
  reg_drives name (shape.Carried k) ps = tt
  reg_drives name (shape.Memory k r) ps = tt
  reg_drives name (shape.Ram u) ps = tt

  -- ---- all cells

  each_cell : {X : Type 0} (P : X → Type 0) (f : List ℕ → CellShape → List RawPin → List X) (cs : List RawCell) → ((name : List ℕ) (s : CellShape) (ps : List RawPin) → All P (f name s ps)) → All P (flat_map (λ (c : RawCell). f c.name c.shape c.pins) cs)
  each_cell P f [] h = tt
  each_cell P f (c ∷ cs) h = all_join P (f c.name c.shape c.pins) _ (h c.name c.shape c.pins) (each_cell P f cs h)

  combs_below : (cs : List RawCell) → All (IsBelow count) (flat_map comb_bits (combs_of places cs))
  combs_below cs = all_flat (IsBelow count) comb_bits (combs_of places cs) (each_cell (λ (c : Comb). All (IsBelow count) (comb_bits c)) (comb_by places) cs comb_below)

  regs_below : (cs : List RawCell) → All (IsBelow count) (flat_map reg_bits (regs_of places roots starts cs))
  regs_below cs = all_flat (IsBelow count) reg_bits (regs_of places roots starts cs) (each_cell (λ (c : Reg). All (IsBelow count) (reg_bits c)) (reg_by places roots starts) cs reg_below)

  carried_all_below : (cs : List RawCell) → All (IsBelow count) (flat_map carried_bits (carried_cells places cs))
  carried_all_below cs = all_flat (IsBelow count) carried_bits (carried_cells places cs) (each_cell (λ (c : Carried). All (IsBelow count) (carried_bits c)) (carried_by places) cs carried_below)

  parts_below : (cs : List RawCell) → All (IsBelow count) (flat_map (λ (c : MemPart). bits_of_pins c.pins) (parts_of places roots cs))
  parts_below cs = all_flat (IsBelow count) (λ (c : MemPart). bits_of_pins c.pins) (parts_of places roots cs) (each_cell (λ (c : MemPart). All (IsBelow count) (bits_of_pins c.pins)) (part_by places roots) cs part_below)

  rams_below : (cs : List RawCell) (rams : List RamCell) → EachRamOf places count cs rams → All (IsBelow count) (flat_map ram_bits rams)
  rams_below [] [] e = tt
  rams_below [] (r ∷ rs) e = absurd e
  rams_below (c ∷ cs) [] e = absurd e
  rams_below (c ∷ cs) (r ∷ rs) e = all_join (IsBelow count) (ram_bits r) _ e.0.bits (rams_below cs rs e.1)

  -- ---- nodes

  abbrev NodeBelow : Node → Type 0
  NodeBelow p = All (λ n. n < count) p.drives

  comb_nodes : (cs : List RawCell) → All NodeBelow (map comb_node (combs_of places cs))
  comb_nodes cs = all_map NodeBelow comb_node (combs_of places cs) (each_cell (λ (c : Comb). All (λ n. n < count) c.y) (comb_by places) cs comb_drives)

  reg_nodes : (cs : List RawCell) → All NodeBelow (map reg_node (regs_of places roots starts cs))
  reg_nodes cs = all_map NodeBelow reg_node (regs_of places roots starts cs) (each_cell (λ (c : Reg). All (λ n. n < count) c.q) (reg_by places roots starts) cs reg_drives)

  all_front : {X : Type 0} (P : X → Type 0) (xs ys : List X) → All P (xs ++ ys) → All P xs × All P ys
  all_front P [] ys a = (tt, a)
  all_front P (x ∷ xs) ys a = let rest = all_front P xs ys a.1 in ((a.0, rest.0), rest.1)

  slot_nodes : (ss : List SlotUse) → All (λ n. n < count) (flat_map (λ (s : SlotUse). s.out) ss) → All NodeBelow (map slot_node ss)
  slot_nodes [] a = tt
  slot_nodes (s ∷ ss) a = let parts = all_front (λ n. n < count) s.out (flat_map (λ (s : SlotUse). s.out) ss) a in (parts.0, slot_nodes ss parts.1)

  rams_nodes : (cs : List RawCell) (rams : List RamCell) → EachRamOf places count cs rams → All NodeBelow (flat_map ram_nodes rams)
  rams_nodes [] [] e = tt
  rams_nodes [] (r ∷ rs) e = absurd e
  rams_nodes (c ∷ cs) [] e = absurd e
  rams_nodes (c ∷ cs) (r ∷ rs) e = all_join NodeBelow (ram_nodes r) _ (slot_nodes r.slots e.0.outs) (rams_nodes cs rs e.1)

-- ---- the module

pub nets_below : (m : DocModule) (g : Gathered) (places : List Bit) (count : ℕ) (roots : List ClockRoot) (starts : List Tri) (rams : List RamCell) → InOrder 0 places count → AreRams places count g.cells rams
    → (n : ℕ) → HasNet (all_bits (module_of m g.cells places count roots starts rams)) n → n < (module_of m g.cells places count roots starts rams).nets
unfolding module_of
nets_below m g places count roots starts rams o are n h =
    let within : All (IsBelow count) places = places_below places count o in
    let below = IsBelow count in
    below_has count _ n
    (all_join below _ _ (wires_below places count within roots starts places m.items within)
    (all_join below _ _ (carried_all_below places count within roots starts g.cells)
    (all_join below _ _ (combs_below places count within roots starts g.cells)
    (all_join below _ _ (regs_below places count within roots starts g.cells)
    (all_join below (flat_map ram_bits rams) _ (rams_below places count within roots starts (ram_cells g.cells) rams are) (parts_below places count within roots starts g.cells)))))) h

pub driven_nets_below : (m : DocModule) (g : Gathered) (places : List Bit) (count : ℕ) (roots : List ClockRoot) (starts : List Tri) (rams : List RamCell) → InOrder 0 places count → AreRams places count g.cells rams
    → (k : ℕ) (p : Node) → slice_get (nodes_of (module_of m g.cells places count roots starts rams)) k ≡ Some p → (n : ℕ) → Drives p n → n < (module_of m g.cells places count roots starts rams).nets
unfolding module_of
driven_nets_below m g places count roots starts rams o are k p at n d =
    let within : All (IsBelow count) places = places_below places count o in
    let nodes : All (NodeBelow places count within roots starts) (map comb_node (combs_of places g.cells) ++ (map reg_node (regs_of places roots starts g.cells) ++ flat_map ram_nodes rams)) =
    all_join (NodeBelow places count within roots starts) _ _ (comb_nodes places count within roots starts g.cells)
    (all_join (NodeBelow places count within roots starts) _ _ (reg_nodes places count within roots starts g.cells) (rams_nodes places count within roots starts (ram_cells g.cells) rams are)) in
    each_of (λ n. n < count) p.drives (each_of (NodeBelow places count within roots starts) _ nodes k p at) d.0 n d.1
