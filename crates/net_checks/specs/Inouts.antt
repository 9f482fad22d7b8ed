-- The bits of inouts, and the breach where one stands in a connect or in a pin of a cell that is not kept as it is.
use Rattle.std.specs.Prelude.{◌≡◌, ℕ, Bool, true, false, ◌&&◌, ◌||◌, List, [], ◌∷◌, ◌++◌, drop, map, Option, Some, None, slice_get, if◌then◌else◌}
use Rattle.std.specs.List.{flat_map, list_any}
use Rattle.rtlil_text.specs.declared.doc.DocModule.{DocModule}
use Rattle.rtlil_text.specs.declared.doc.Item.{Item}
use Rattle.rtlil_text.specs.declared.doc.Item.TheVariants as item
use Rattle.rtlil_text.specs.declared.doc.Part.{Part}
use Rattle.rtlil_text.specs.Grammar.{module_name}
use Rattle.net_core.specs.Valid.{is_there}
use Rattle.cell_rows.specs.Kinds.{found, place_of}
use Rattle.net_wires.specs.declared.breach.BuildCode.TheVariants as code
use Rattle.net_wires.specs.declared.source.Pair.{Pair}
use Rattle.net_wires.specs.declared.source.Source.{Source}
use Rattle.net_wires.specs.declared.source.Source.TheVariants as source
use Rattle.net_wires.specs.Connects.{connect_pairs}
use Rattle.net_wires.specs.Drivers.{is_place}
use Rattle.net_wires.specs.Spans.{Entry}
use Rattle.raw_cells.specs.declared.raw.CellShape.{CellShape}
use Rattle.raw_cells.specs.declared.raw.CellShape.TheVariants as shape
use Rattle.raw_cells.specs.declared.raw.RawCell.{RawCell}
use Rattle.raw_cells.specs.declared.raw.RawPin.{RawPin}
use Rattle.net_checks.specs.declared.fault.ModuleFault.{ModuleFault}
use Rattle.net_checks.specs.declared.inouts.Inouts.{Inouts}
use Rattle.net_checks.specs.declared.marking.Port.TheVariants as port
use Rattle.net_checks.specs.Finds.{broken}
use Rattle.net_checks.specs.Marks.{port_bits}
use Rattle.net_checks.specs.Names.{connect_name}

-- ---- the inouts of the modules of a file

abbrev pub inout_name : Item → List (List ℕ)
inout_name (item.Wire w) = if w.input && w.output then w.name ∷ [] else []
inout_name (item.Param p) = []
inout_name (item.Mem m) = []
inout_name (item.Cell c) = []
inout_name (item.Connect l r) = []

abbrev pub inout_at : Option (List (List ℕ × ℕ)) → List ℕ → Bool
inout_at None pin = false
inout_at (Some ports) pin = is_there (found ports pin)

abbrev pub module_has : List (List (List ℕ × ℕ)) → List ℕ → Option ℕ → Bool
module_has ports pin None = false
module_has ports pin (Some k) = inout_at (slice_get ports k) pin

-- the type is a module, and this is an inout of it
abbrev pub has_inout : Inouts → List ℕ → List ℕ → Bool
has_inout x kind pin = module_has x.ports.items pin (found x.modules kind)

-- these places are those of a module's inouts
abbrev pub AreInouts : DocModule → List (List ℕ × ℕ) → Type 0
AreInouts m places = (name : List ℕ) → found places name ≡ place_of (flat_map inout_name m.items) name

abbrev pub AllInouts : List DocModule → List (List (List ℕ × ℕ)) → Type 0
AllInouts [] [] = Unit {0}
AllInouts [] (p ∷ ps) = ⊥
AllInouts (m ∷ ms) [] = ⊥
AllInouts (m ∷ ms) (p ∷ ps) = AreInouts m p × AllInouts ms ps

-- these are the modules of a file
pub record ShowsInouts (ms : List DocModule) (x : Inouts) : Type 0 where
  pub places : (name : List ℕ) → found x.modules name ≡ place_of (map module_name ms) name
  pub ports : AllInouts ms x.ports.items

-- ---- the bits of inouts in a module

abbrev pub pin_inouts : Inouts → List ℕ → RawPin → List Source
pin_inouts x kind p = if has_inout x kind p.name then p.bits else []

abbrev pub shape_inouts : Inouts → CellShape → List RawPin → List Source
shape_inouts x (shape.Comb r) ps = []
shape_inouts x (shape.Reg r) ps = []
shape_inouts x (shape.Carried k) ps = flat_map (pin_inouts x k.kind) ps
shape_inouts x (shape.Memory k r) ps = []
shape_inouts x (shape.Ram u) ps = []

abbrev pub cell_inouts : Inouts → RawCell → List Source
cell_inouts x c = shape_inouts x c.shape c.pins

-- those of inout wires, and those of inout pins of instances
abbrev pub inout_bits : Inouts → List Item → List RawCell → List Source
inout_bits x items cells = port_bits port.Inout 0 items ++ flat_map (cell_inouts x) cells

-- ---- where they may not stand

-- the bit is one of the places among these
abbrev pub is_among : List Source → Source → Bool
is_among inouts (source.At p) = list_any (is_place p) inouts
is_among inouts s = false

abbrev pub touches_pair : (Source → Bool) → Pair → Bool
touches_pair is_inout p = is_inout p.left || is_inout p.right

abbrev pub touches_pin : (Source → Bool) → RawPin → Bool
touches_pin is_inout p = list_any is_inout p.bits

abbrev pub is_kept : CellShape → Bool
is_kept (shape.Comb r) = false
is_kept (shape.Reg r) = false
is_kept (shape.Carried k) = true
is_kept (shape.Memory k r) = false
is_kept (shape.Ram u) = false

abbrev pub touches_cell : (Source → Bool) → RawCell → Bool
touches_cell is_inout c = if is_kept c.shape then false else list_any (touches_pin is_inout) c.pins

abbrev pub cell_fault : (Source → Bool) → RawCell → List ModuleFault
cell_fault is_inout c = if touches_cell is_inout c then broken code.Inout c.name ∷ [] else []

abbrev pub connect_fault : (Source → Bool) → List Entry → List Part → List Part → List ModuleFault
connect_fault is_inout names left right =
    if list_any (touches_pair is_inout) (connect_pairs names left right) then broken code.Inout (connect_name left right) ∷ [] else []

abbrev pub first_fault : (Source → Bool) → List RawCell → List ModuleFault
first_fault is_inout [] = []
first_fault is_inout (c ∷ cs) = cell_fault is_inout c

-- what an item breaks, where its cell is the first of these
abbrev pub item_fault : (Source → Bool) → List Entry → List RawCell → Item → List ModuleFault
item_fault is_inout names cells (item.Param p) = []
item_fault is_inout names cells (item.Wire w) = []
item_fault is_inout names cells (item.Mem m) = []
item_fault is_inout names cells (item.Cell c) = first_fault is_inout cells
item_fault is_inout names cells (item.Connect l r) = connect_fault is_inout names l r

-- the cells of the items behind
abbrev pub cells_behind : List RawCell → Item → List RawCell
cells_behind cells (item.Param p) = cells
cells_behind cells (item.Wire w) = cells
cells_behind cells (item.Mem m) = cells
cells_behind cells (item.Cell c) = drop 1 cells
cells_behind cells (item.Connect l r) = cells

-- in file order; the cells are those of the items
abbrev pub inout_faults : (Source → Bool) → List Entry → List RawCell → List Item → List ModuleFault
inout_faults is_inout names cells [] = []
inout_faults is_inout names cells (i ∷ is) = item_fault is_inout names cells i ++ inout_faults is_inout names (cells_behind cells i) is
