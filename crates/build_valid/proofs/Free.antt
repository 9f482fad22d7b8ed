-- A net that stands at no pin of the cells that are taken apart stands in none of what they become.
use Rattle.std.proofs.Common.{◌≡◌, ℕ, Bool, true, false, cond, List, [], ◌∷◌, ◌++◌, map, drop, length, Option, Some, None, nat_eq, codes, refl}
use Rattle.std.specs.Prelude.{if◌then◌else◌}
use Rattle.std.specs.List.{flat_map}
use Rattle.std.specs.Str.{bytes_eq}
use Rattle.lib_core.specs.declared.library.Group.{Group}
use Rattle.lib_core.specs.declared.library.Library.{Library}
use Rattle.lib_core.specs.declared.library.Tri.{Tri}
use Rattle.lib_core.specs.declared.library.Variant.{Variant}
use Rattle.rtlil_text.specs.declared.doc.DocModule.{DocModule}
use Rattle.rtlil_text.specs.Grammar.{All}
use Rattle.net_core.specs.declared.bits.Bit.{Bit}
use Rattle.net_core.specs.declared.bits.Bit.TheVariants as bits
use Rattle.net_core.specs.declared.cells.Comb.{Comb}
use Rattle.net_core.specs.declared.cells.Reg.{Reg}
use Rattle.net_core.specs.declared.modules.MemPart.{MemPart}
use Rattle.net_core.specs.declared.rams.RamCell.{RamCell}
use Rattle.net_core.specs.declared.rams.SlotUse.{SlotUse}
use Rattle.net_core.specs.Nodes.{comb_node, Node, nodes_of, ram_nodes, reg_node, slot_node}
use Rattle.net_core.specs.Pins.{comb_bits, inner_bits, ram_bits, reg_bits}
use Rattle.net_core.specs.Pins as pinned
use Rattle.net_core.specs.Ports.{bits_of_pins, nets_of}
use Rattle.net_wires.specs.declared.clock.ClockRoot.{ClockRoot}
use Rattle.net_wires.specs.declared.source.Source.{Source}
use Rattle.net_wires.specs.Nets.{bit_of}
use Rattle.ram_rows.specs.declared.pins.SlotPin.{SlotPin}
use Rattle.ram_rows.specs.declared.pins.SlotPin.TheVariants as pin
use Rattle.ram_rows.specs.declared.slots.SlotRow.{SlotRow}
use Rattle.ram_rows.specs.RamNames.{slot_name}
use Rattle.ram_rows.specs.RamPins.{suffix}
use Rattle.raw_cells.specs.declared.raw.CellShape.{CellShape}
use Rattle.raw_cells.specs.declared.raw.CellShape.TheVariants as shape
use Rattle.raw_cells.specs.declared.raw.RamUse.{RamUse}
use Rattle.raw_cells.specs.declared.raw.RawCell.{RawCell}
use Rattle.raw_cells.specs.declared.raw.RawPin.{RawPin}
use Rattle.raw_cells.specs.Bits.{bit_at, bits_at, bits_of, first_or_zero, pin_named, sources_at, sources_of}
use Rattle.raw_cells.specs.RamCells.{groups_slots, names_slots, ram_of, slot_of}
use Rattle.raw_cells.specs.Rows.{variant_of}
use Rattle.net_cells.specs.Cells.{comb_of, reg_of}
use Rattle.net_cells.specs.Clocks.{clock_bit}
use Rattle.net_cells.specs.Parts.{clock_bits, part_of, part_pins}
use Rattle.net_module.specs.Assembly.{comb_by, combs_of, module_of, part_by, parts_of, ram_by, ram_under, rams_of, reg_by, regs_of}
use Rattle.net_fits.specs.Rams.{is_this}
use Rattle.net_fits.proofs.Lists.{all_join}

module _ (n : ℕ) (places : List Bit) (roots : List ClockRoot) where
  -- the bit is another one than the net, and so is what stands there as a bit or as a clock
  abbrev pub Free : Bit → Type 0
  Free b = is_this n b ≡ false

  abbrev pub SourceFree : Source → Type 0
  SourceFree s = Free (bit_of places s) × Free (clock_bit places roots s)

  abbrev pub PinsFree : List RawPin → Type 0
  PinsFree ps = All (λ (p : RawPin). All SourceFree p.bits) ps

  -- a cell that is taken apart
  abbrev pub CellFree : CellShape → List RawPin → Type 0
  CellFree (shape.Comb r) ps = PinsFree ps
  CellFree (shape.Reg r) ps = PinsFree ps
  CellFree (shape.Carried k) ps = Unit {0}
  CellFree (shape.Memory k r) ps = PinsFree ps
  CellFree (shape.Ram u) ps = PinsFree ps

  abbrev pub CellsFree : List RawCell → Type 0
  CellsFree cs = All (λ (c : RawCell). CellFree c.shape c.pins) cs

  -- ---- pins by their names

  found_case : (b : Bool) (p : RawPin) (o : Option RawPin) → All SourceFree p.bits → All SourceFree (sources_of o) → All SourceFree (sources_of (cond b (Some p) o))
  found_case true p o a h = a
  found_case false p o a h = h

  named_free : (ps : List RawPin) (name : List ℕ) → PinsFree ps → All SourceFree (sources_at ps name)
  named_free [] name a = tt
  named_free (p ∷ ps) name a = found_case (bytes_eq p.name name) p (pin_named ps name) a.0 (named_free ps name a.1)

  bits_free : (ss : List Source) → All SourceFree ss → All Free (bits_of places ss)
  bits_free [] a = tt
  bits_free (s ∷ ss) a = (a.0.0, bits_free ss a.1)

  clocks_free : (ss : List Source) → All SourceFree ss → All Free (clock_bits places roots ss)
  clocks_free [] a = tt
  clocks_free (s ∷ ss) a = (a.0.1, clocks_free ss a.1)

  at_free : (ps : List RawPin) → PinsFree ps → (name : List ℕ) → All Free (bits_at places ps name)
  at_free ps a name = bits_free (sources_at ps name) (named_free ps name a)

  first_free : (bs : List Bit) → All Free bs → Free (first_or_zero bs)
  first_free [] a = refl
  first_free (b ∷ bs) a = a.0

  one_free : (ps : List RawPin) → PinsFree ps → (name : List ℕ) → Free (bit_at places ps name)
  one_free ps a name = first_free (bits_at places ps name) (at_free ps a name)

  abbrev pub NetsFree : List ℕ → Type 0
  NetsFree ns = All (λ k. nat_eq n k ≡ false) ns

  nets_free : (bs : List Bit) → All Free bs → NetsFree (nets_of bs)
  nets_free [] a = tt
  nets_free (bits.Zero ∷ bs) a = nets_free bs a.1
  nets_free (bits.One ∷ bs) a = nets_free bs a.1
  nets_free (bits.Net k ∷ bs) a = (a.0, nets_free bs a.1)

  -- ---- one cell

  comb_free : (name : List ℕ) (s : CellShape) (ps : List RawPin) → CellFree s ps → All (λ (c : Comb). All Free (comb_bits c) × NetsFree c.y) (comb_by places name s ps)
  unfolding comb_of
  comb_free name (shape.Comb r) ps a =
      let at = at_free ps a in (
        (
          all_join Free (bits_at places ps (codes "\\A")) (bits_at places ps (codes "\\B") ++ bits_at places ps (codes "\\S")) (at (codes "\\A")) (all_join Free (bits_at places ps (codes "\\B")) (bits_at places ps (codes "\\S")) (at (codes "\\B")) (at (codes "\\S"))),
          nets_free (bits_at places ps (codes "\\Y")) (at (codes "\\Y")),
        ),
        tt,
      )
  comb_free name (shape.Reg r) ps a = tt
  comb_free name (shape.Carried k) ps a = tt
  comb_free name (shape.Memory k r) ps a = tt
  comb_free name (shape.Ram u) ps a = tt

  reg_free : (starts : List Tri) (name : List ℕ) (s : CellShape) (ps : List RawPin) → CellFree s ps → All (λ (r : Reg). All Free (reg_bits r) × NetsFree r.q) (reg_by places roots starts name s ps)
  unfolding reg_of
  reg_free starts name (shape.Comb r) ps a = tt
  reg_free starts name (shape.Reg r) ps a =
      let one = one_free ps a in
      (((one (codes "\\EN"), (one (codes "\\ARST"), (one (codes "\\SRST"), at_free ps a (codes "\\D")))), nets_free (bits_at places ps (codes "\\Q")) (at_free ps a (codes "\\Q"))), tt)
  reg_free starts name (shape.Carried k) ps a = tt
  reg_free starts name (shape.Memory k r) ps a = tt
  reg_free starts name (shape.Ram u) ps a = tt

  part_case : (t : Bool) (ss : List Source) → All SourceFree ss → All Free (if t then clock_bits places roots ss else bits_of places ss)
  part_case true ss a = clocks_free ss a
  part_case false ss a = bits_free ss a

  part_pins_free : (ps : List RawPin) → PinsFree ps → All Free (bits_of_pins (part_pins places roots ps))
  part_pins_free [] a = tt
  part_pins_free (p ∷ ps) a = all_join Free (if p.clock then clock_bits places roots p.bits else bits_of places p.bits) (bits_of_pins (part_pins places roots ps)) (part_case p.clock p.bits a.0) (part_pins_free ps a.1)

  part_free : (name : List ℕ) (s : CellShape) (ps : List RawPin) → CellFree s ps → All (λ (c : MemPart). All Free (bits_of_pins c.pins)) (part_by places roots name s ps)
  unfolding part_of
  part_free name (shape.Comb r) ps a = tt
  part_free name (shape.Reg r) ps a = tt
  part_free name (shape.Carried k) ps a = tt
  part_free name (shape.Memory k r) ps a = (part_pins_free ps a, tt)
  part_free name (shape.Ram u) ps a = tt

  abbrev SlotFree : SlotUse → Type 0
  SlotFree s = All Free (pinned.slot_bits s) × NetsFree s.out

  slot_free : (ps : List RawPin) → PinsFree ps → (g : Group) (slot : List ℕ) (row : SlotRow) → SlotFree (slot_of places roots ps g slot row)
  unfolding slot_of
  slot_free ps a g slot row =
      let at = at_free ps a in
      let one = one_free ps a in
      let here : SlotPin → List Bit = λ p. bits_at places ps (slot_name slot (suffix p)) in (
        (
          one (slot_name slot (suffix pin.ClkEn)),
          (
            one (slot_name slot (suffix pin.RdEn)),
            (
              one (slot_name slot (suffix pin.RdSrst)),
              (
                one (slot_name slot (suffix pin.RdArst)),
                all_join Free (here pin.Addr) (here pin.WrData ++ (here pin.WrEn ++ here pin.WrBe)) (at (slot_name slot (suffix pin.Addr)))
                    (all_join Free (here pin.WrData) (here pin.WrEn ++ here pin.WrBe) (at (slot_name slot (suffix pin.WrData)))
                    (all_join Free (here pin.WrEn) (here pin.WrBe) (at (slot_name slot (suffix pin.WrEn))) (at (slot_name slot (suffix pin.WrBe))))),
              ),
            ),
          ),
        ),
        nets_free (here pin.RdData) (at (slot_name slot (suffix pin.RdData))),
      )

  names_free : (ps : List RawPin) → PinsFree ps → (g : Group) (ns : List (List ℕ)) (rows : List SlotRow) → All SlotFree (names_slots places roots ps g ns rows)
  names_free ps a g [] rows = tt
  names_free ps a g (m ∷ ms) [] = tt
  names_free ps a g (m ∷ ms) (r ∷ rs) = (slot_free ps a g m r, names_free ps a g ms rs)

  groups_free : (ps : List RawPin) → PinsFree ps → (gs : List Group) (rows : List SlotRow) → All SlotFree (groups_slots places roots ps gs rows)
  groups_free ps a [] rows = tt
  groups_free ps a (g ∷ gs) rows = all_join SlotFree (names_slots places roots ps g g.names rows) (groups_slots places roots ps gs (drop (length g.names) rows)) (names_free ps a g g.names rows) (groups_free ps a gs (drop (length g.names) rows))

  slots_bits : (ss : List SlotUse) → All SlotFree ss → All Free (flat_map pinned.slot_bits ss)
  slots_bits [] a = tt
  slots_bits (s ∷ ss) a = all_join Free (pinned.slot_bits s) (flat_map pinned.slot_bits ss) a.0.0 (slots_bits ss a.1)

  abbrev NodeFree : Node → Type 0
  NodeFree p = NetsFree p.drives

  slots_nodes : (ss : List SlotUse) → All SlotFree ss → All NodeFree (map slot_node ss)
  slots_nodes [] a = tt
  slots_nodes (s ∷ ss) a = (a.0.1, slots_nodes ss a.1)

  abbrev RamFree : RamCell → Type 0
  RamFree r = All Free (ram_bits r) × All NodeFree (ram_nodes r)

  under_free : (lib : Library) (name : List ℕ) (u : RamUse) (o : Option Variant) (ps : List RawPin) → PinsFree ps → RamFree (ram_under lib places roots name u o ps)
  unfolding ram_of
  under_free lib name u None ps a = (tt, tt)
  under_free lib name u (Some v) ps a =
      let all = groups_free ps a v.groups u.row.slots in
      (slots_bits (groups_slots places roots ps v.groups u.row.slots) all, slots_nodes (groups_slots places roots ps v.groups u.row.slots) all)

  ram_free : (lib : Library) (name : List ℕ) (s : CellShape) (ps : List RawPin) → CellFree s ps → All RamFree (ram_by lib places roots name s ps)
  ram_free lib name (shape.Comb r) ps a = tt
  ram_free lib name (shape.Reg r) ps a = tt
  ram_free lib name (shape.Carried k) ps a = tt
  ram_free lib name (shape.Memory k r) ps a = tt
  ram_free lib name (shape.Ram u) ps a = (under_free lib name u (variant_of lib u) ps a, tt)

  -- ---- all cells

  each_cell : {X : Type 0} (P : X → Type 0) (f : List ℕ → CellShape → List RawPin → List X) (cs : List RawCell) → ((name : List ℕ) (s : CellShape) (ps : List RawPin) → CellFree s ps → All P (f name s ps)) → CellsFree cs
      → All P (flat_map (λ (c : RawCell). f c.name c.shape c.pins) cs)
  each_cell P f [] h a = tt
  each_cell P f (c ∷ cs) h a = all_join P (f c.name c.shape c.pins) (flat_map (λ (d : RawCell). f d.name d.shape d.pins) cs) (h c.name c.shape c.pins a.0) (each_cell P f cs h a.1)

  spread : {X : Type 0} (P : X → Type 0) (f : X → List Bit) (xs : List X) → ((x : X) → P x → All Free (f x)) → All P xs → All Free (flat_map f xs)
  spread P f [] h a = tt
  spread P f (x ∷ xs) h a = all_join Free (f x) (flat_map f xs) (h x a.0) (spread P f xs h a.1)

  nodes : {X : Type 0} (P : X → Type 0) (f : X → Node) (xs : List X) → ((x : X) → P x → NodeFree (f x)) → All P xs → All NodeFree (map f xs)
  nodes P f [] h a = tt
  nodes P f (x ∷ xs) h a = (h x a.0, nodes P f xs h a.1)

  many_nodes : {X : Type 0} (P : X → Type 0) (f : X → List Node) (xs : List X) → ((x : X) → P x → All NodeFree (f x)) → All P xs → All NodeFree (flat_map f xs)
  many_nodes P f [] h a = tt
  many_nodes P f (x ∷ xs) h a = all_join NodeFree (f x) (flat_map f xs) (h x a.0) (many_nodes P f xs h a.1)

  pub inner_free : (lib : Library) (d : DocModule) (count : ℕ) (starts : List Tri) (cs : List RawCell) → CellsFree cs → All Free (inner_bits (module_of d cs places count roots starts (rams_of lib places roots cs)))
  unfolding module_of
  inner_free lib d count starts cs a =
      let combs = spread (λ (c : Comb). All Free (comb_bits c) × NetsFree c.y) comb_bits (combs_of places cs) (λ c f. f.0) (each_cell (λ (c : Comb). All Free (comb_bits c) × NetsFree c.y) (comb_by places) cs comb_free a) in
      let regs = spread (λ (r : Reg). All Free (reg_bits r) × NetsFree r.q) reg_bits (regs_of places roots starts cs) (λ c f. f.0) (each_cell (λ (r : Reg). All Free (reg_bits r) × NetsFree r.q) (reg_by places roots starts) cs (reg_free starts) a) in
      let rams = spread RamFree ram_bits (rams_of lib places roots cs) (λ c f. f.0) (each_cell RamFree (ram_by lib places roots) cs (ram_free lib) a) in
      let parts = spread (λ (c : MemPart). All Free (bits_of_pins c.pins)) (λ (c : MemPart). bits_of_pins c.pins) (parts_of places roots cs) (λ c f. f) (each_cell (λ (c : MemPart). All Free (bits_of_pins c.pins)) (part_by places roots) cs part_free a) in
      let part_list = flat_map (λ (c : MemPart). bits_of_pins c.pins) (parts_of places roots cs) in
      let ram_list = flat_map ram_bits (rams_of lib places roots cs) in
      let reg_list = flat_map reg_bits (regs_of places roots starts cs) in
      all_join Free (flat_map comb_bits (combs_of places cs)) (reg_list ++ (ram_list ++ part_list)) combs (all_join Free reg_list (ram_list ++ part_list) regs (all_join Free ram_list part_list rams parts))

  pub nodes_free : (lib : Library) (d : DocModule) (count : ℕ) (starts : List Tri) (cs : List RawCell) → CellsFree cs → All (λ (p : Node). NetsFree p.drives) (nodes_of (module_of d cs places count roots starts (rams_of lib places roots cs)))
  unfolding module_of
  nodes_free lib d count starts cs a =
      let combs = nodes (λ (c : Comb). All Free (comb_bits c) × NetsFree c.y) comb_node (combs_of places cs) (λ c f. f.1) (each_cell (λ (c : Comb). All Free (comb_bits c) × NetsFree c.y) (comb_by places) cs comb_free a) in
      let regs = nodes (λ (r : Reg). All Free (reg_bits r) × NetsFree r.q) reg_node (regs_of places roots starts cs) (λ c f. f.1) (each_cell (λ (r : Reg). All Free (reg_bits r) × NetsFree r.q) (reg_by places roots starts) cs (reg_free starts) a) in
      let rams = many_nodes RamFree ram_nodes (rams_of lib places roots cs) (λ c f. f.1) (each_cell RamFree (ram_by lib places roots) cs (ram_free lib) a) in
      all_join NodeFree (map comb_node (combs_of places cs)) (map reg_node (regs_of places roots starts cs) ++ flat_map ram_nodes (rams_of lib places roots cs)) combs (all_join NodeFree (map reg_node (regs_of places roots starts cs)) (flat_map ram_nodes (rams_of lib places roots cs)) regs rams)
