-- How many parts a module has.
use Rattle.std.proofs.Common.{◌≡◌, inl, inr, ℕ, suc, ◌+◌, ◌≤◌, ◌<◌, ◌^◌, List, [], ◌∷◌, ◌++◌, map, drop, length, nat_eq, refl, ap, arith}
use Rattle.std.specs.List.{count_by, flat_map}
use Rattle.std.proofs.lemmas.List.{length-append}
use Rattle.std.proofs.lemmas.List.Sums.{count_by-le-length}
use Rattle.lib_core.specs.declared.library.Tri.{Tri}
use Rattle.rtlil_text.specs.declared.doc.DocCell.{DocCell}
use Rattle.rtlil_text.specs.declared.doc.DocModule.{DocModule}
use Rattle.rtlil_text.specs.declared.doc.Item.{Item}
use Rattle.rtlil_text.specs.declared.doc.Item.TheVariants as item
use Rattle.rtlil_text.specs.declared.place.Statement.TheVariants as says
use Rattle.rtlil_text.specs.Grammar.{attributes, cell_begin, item_statements, line_statement, module_begin}
use Rattle.net_core.specs.declared.bits.Bit.{Bit}
use Rattle.net_core.specs.declared.bits.Bit.TheVariants as bits
use Rattle.net_core.specs.declared.cells.Comb.{Comb}
use Rattle.net_core.specs.declared.cells.Reg.{Reg}
use Rattle.net_core.specs.declared.mems.Attr.{Attr}
use Rattle.net_core.specs.declared.rams.RamCell.{RamCell}
use Rattle.net_core.specs.Nodes.{comb_node, Node, reg_node}
use Rattle.doc_params.specs.Docs.{params_of}
use Rattle.net_wires.specs.declared.clock.ClockRoot.{ClockRoot}
use Rattle.net_wires.specs.Nets.{InOrder}
use Rattle.net_gather.specs.declared.counts.Counts.{Counts}
use Rattle.raw_cells.specs.declared.raw.CellShape.{CellShape}
use Rattle.raw_cells.specs.declared.raw.CellShape.TheVariants as shape
use Rattle.raw_cells.specs.declared.raw.RawCell.{RawCell}
use Rattle.raw_cells.specs.declared.raw.RawPin.{RawPin}
use Rattle.raw_cells.specs.declared.row.Found.{Found}
use Rattle.raw_cells.specs.declared.row.Found.TheVariants as found
use Rattle.net_gather.specs.Cells.{Context, found_gain, kind_in}
use Rattle.net_gather.specs.Gather.{counted, counts_before, gained, gathered, item_gain, raw_cells}
use Rattle.raw_cells.specs.Rows.{found_row}
use Rattle.net_cells.specs.Wires.{declared, wires_from}
use Rattle.net_module.specs.Assembly.{carried_by, carried_cells, comb_by, combs_of, part_by, parts_of, reg_by, regs_of}
use Rattle.net_fits.specs.Rams.{EachRamOf, ram_by, ram_cells}
use Rattle.net_fits.specs.Written.{IsWritten}
use Rattle.net_fits.proofs.Lists.{length_map}

-- ---- items and statements

item_some : (i : Item) → 1 ≤ length (item_statements i)
item_some (item.Param p) = omega arith
item_some (item.Wire w) = (let sum : length (attributes w.attrs ++ says.Wire (record w { attrs = [] }) ∷ []) ≡ length (attributes w.attrs) + 1 = length-append (attributes w.attrs) _ in omega (arith, sum))
item_some (item.Mem m) = (let sum : length (attributes m.attrs ++ says.Memory (record m { attrs = [] }) ∷ []) ≡ length (attributes m.attrs) + 1 = length-append (attributes m.attrs) _ in omega (arith, sum))
item_some (item.Cell c) =
    let sum : length (cell_begin c ++ (map line_statement c.lines ++ says.End ∷ [])) ≡ length (cell_begin c) + length (map line_statement c.lines ++ says.End ∷ []) = length-append (cell_begin c) _ in
    let more : length (map line_statement c.lines ++ says.End ∷ []) ≡ length (map line_statement c.lines) + 1 = length-append (map line_statement c.lines) _ in
    omega (arith, sum, more)
item_some (item.Connect l r) = omega arith

items_few : (is : List Item) → length is ≤ length (flat_map item_statements is)
items_few [] = omega arith
items_few (i ∷ is) =
    let sum : length (item_statements i ++ flat_map item_statements is) ≡ length (item_statements i) + length (flat_map item_statements is) = length-append (item_statements i) _ in
    let one = item_some i in
    let rest = items_few is in
    omega (arith, sum, one, rest)

pub items_counted : (m : DocModule) → IsWritten m → length m.items < 2 ^ 31
items_counted m w =
    let sum : length (module_begin m ++ (flat_map item_statements m.items ++ says.End ∷ [])) ≡ length (module_begin m) + length (flat_map item_statements m.items ++ says.End ∷ []) = length-append (module_begin m) _ in
    let more : length (flat_map item_statements m.items ++ says.End ∷ []) ≡ length (flat_map item_statements m.items) + 1 = length-append (flat_map item_statements m.items) _ in
    let few : length (module_begin m ++ (flat_map item_statements m.items ++ says.End ∷ [])) < 2 ^ 31 = w.count in
    let items = items_few m.items in
    omega (arith, sum, more, few, items)

-- ---- cells

found_few : (x : Context) (st : Counts) (c : DocCell) (params : List Attr) (f : Found) → length (gained (found_gain x st c params f)) ≤ 1
found_few x st c params found.Unknown = omega arith
found_few x st c params found.Missing = omega arith
found_few x st c params (found.Row r) = omega arith

item_few : (x : Context) (st : Counts) (i : Item) → length (gained (item_gain x st i)) ≤ 1
item_few x st (item.Wire w) = omega arith
item_few x st (item.Param q) = omega arith
item_few x st (item.Mem m) = omega arith
item_few x st (item.Cell c) = found_few x st c (params_of c.lines) (found_row x.library (kind_in x c.kind) (params_of c.lines))
item_few x st (item.Connect l r) = omega arith

cells_few : (x : Context) (st : Counts) (is : List Item) → length (raw_cells x st is) ≤ length is
cells_few x st [] = omega arith
cells_few x st (i ∷ is) =
    let next = counted st (item_gain x st i) in
    let sum : length (gained (item_gain x st i) ++ raw_cells x next is) ≡ length (gained (item_gain x st i)) + length (raw_cells x next is) = length-append (gained (item_gain x st i)) _ in
    let one = item_few x st i in
    let rest = cells_few x next is in
    omega (arith, sum, one, rest)

pub cells_counted : (x : Context) (m : DocModule) → IsWritten m → length (gathered x m.items).cells < 2 ^ 31
cells_counted x m w = (let few = cells_few x (counts_before m.items) m.items in let items = items_counted m w in omega (arith, few, items))

module _ (places : List Bit) (roots : List ClockRoot) (starts : List Tri) where
  one_shape : (name : List ℕ) (s : CellShape) (ps : List RawPin) (c : RawCell) →
      length (comb_by places name s ps) + (length (reg_by places roots starts name s ps) + (length (ram_by s c) + (length (carried_by places name s ps) + length (part_by places roots name s ps)))) ≡ 1
  one_shape name (shape.Comb q) ps c = omega arith
  one_shape name (shape.Reg q) ps c = omega arith
  one_shape name (shape.Carried k) ps c = omega arith
  one_shape name (shape.Memory k q) ps c = omega arith
  one_shape name (shape.Ram u) ps c = omega arith

  pub shapes_counted : (cs : List RawCell) →
      length (combs_of places cs) + (length (regs_of places roots starts cs) + (length (ram_cells cs) + (length (carried_cells places cs) + length (parts_of places roots cs)))) ≡ length cs
  shapes_counted [] = omega arith
  shapes_counted (c ∷ cs) =
      let one = one_shape c.name c.shape c.pins c in
      let rest = shapes_counted cs in
      let a = length-append (comb_by places c.name c.shape c.pins) (combs_of places cs) in
      let b = length-append (reg_by places roots starts c.name c.shape c.pins) (regs_of places roots starts cs) in
      let d = length-append (ram_by c.shape c) (ram_cells cs) in
      let e = length-append (carried_by places c.name c.shape c.pins) (carried_cells places cs) in
      let f = length-append (part_by places roots c.name c.shape c.pins) (parts_of places roots cs) in
      omega (arith, one, rest, a, b, d, e, f)

pub rams_as_many : (places : List Bit) (count : ℕ) (cs : List RawCell) (rams : List RamCell) → EachRamOf places count cs rams → length rams ≡ length cs
rams_as_many places count [] [] e = refl
rams_as_many places count [] (r ∷ rs) e = absurd e
rams_as_many places count (c ∷ cs) [] e = absurd e
rams_as_many places count (c ∷ cs) (r ∷ rs) e = ap (λ k. suc k) (rams_as_many places count cs rs e.1)

-- ---- wires and memories

pub wires_few : (places : List Bit) (is : List Item) → length (wires_from places is) ≤ length is
unfolding wires_from
wires_few places [] = omega arith
wires_few places (item.Wire w ∷ is) = (let rest = wires_few (drop w.width places) is in omega (arith, rest))
wires_few places (item.Param p ∷ is) = (let rest = wires_few places is in omega (arith, rest))
wires_few places (item.Mem m ∷ is) = (let rest = wires_few places is in omega (arith, rest))
wires_few places (item.Cell c ∷ is) = (let rest = wires_few places is in omega (arith, rest))
wires_few places (item.Connect l r ∷ is) = (let rest = wires_few places is in omega (arith, rest))

pub declared_few : (is : List Item) → length (declared is) ≤ length is
declared_few [] = omega arith
declared_few (item.Wire w ∷ is) = (let rest = declared_few is in omega (arith, rest))
declared_few (item.Param p ∷ is) = (let rest = declared_few is in omega (arith, rest))
declared_few (item.Mem m ∷ is) = (let rest = declared_few is in omega (arith, rest))
declared_few (item.Cell c ∷ is) = (let rest = declared_few is in omega (arith, rest))
declared_few (item.Connect l r ∷ is) = (let rest = declared_few is in omega (arith, rest))

-- ---- nets and nodes

order_few : (n : ℕ) (bs : List Bit) (total : ℕ) → InOrder n bs total → total ≤ n + length bs
order_few n [] total o = omega (arith, o)
order_few n (bits.Zero ∷ bs) total o = (let rest = order_few n bs total o in omega (arith, rest))
order_few n (bits.One ∷ bs) total o = (let rest = order_few n bs total o in omega (arith, rest))
order_few n (bits.Net k ∷ bs) total o =
    elim o [
      | inl (less, later) ↦ (let rest = order_few n bs total later in omega (arith, rest))
      | inr (same, later) ↦ (let rest = order_few (suc n) bs total later in omega (arith, rest))
    ]

pub nets_few : (places : List Bit) (count limit : ℕ) → InOrder 0 places count → length places ≤ limit → count ≤ limit
nets_few places count limit o h = (let few = order_few 0 places count o in omega (arith, few, h))

pub silent_few : (combs : List Comb) (regs : List Reg) → count_by (λ (p : Node). nat_eq (length p.drives) 0) (map comb_node combs ++ (map reg_node regs ++ [])) ≤ length combs + length regs
silent_few combs regs =
    let few = count_by-le-length (λ (p : Node). nat_eq (length p.drives) 0) (map comb_node combs ++ (map reg_node regs ++ [])) in
    let sum : length (map comb_node combs ++ (map reg_node regs ++ [])) ≡ length (map comb_node combs) + length (map reg_node regs ++ []) = length-append (map comb_node combs) _ in
    let more : length (map reg_node regs ++ []) ≡ length (map reg_node regs) + 0 = length-append (map reg_node regs) [] in
    let a = length_map comb_node combs in
    let b = length_map reg_node regs in
    omega (arith, few, sum, more, a, b)
