-- One cell: what it breaks, what is gathered of it, and what is counted behind it.
use Rattle.std.specs.Prelude.{ℕ, Bool, List, [], ◌∷◌, ◌++◌, Option, Some, None, if◌then◌else◌}
use Rattle.lib_core.specs.declared.library.Library.{Library}
use Rattle.rtlil_text.specs.declared.doc.DocCell.{DocCell}
use Rattle.net_core.specs.declared.mems.Attr.{Attr}
use Rattle.cell_rows.specs.declared.comb.CombRow.{CombRow}
use Rattle.cell_rows.specs.declared.kinds.CellKind.{CellKind}
use Rattle.cell_rows.specs.Kinds.{found, kind_of}
use Rattle.cell_rows.specs.Rows.{is_carried_row}
use Rattle.doc_params.specs.Docs.{attrs_of, params_of}
use Rattle.net_wires.specs.declared.breach.Breach.{Breach}
use Rattle.net_wires.specs.declared.breach.BuildCode.TheVariants as code
use Rattle.net_wires.specs.Finds.{breach}
use Rattle.net_wires.specs.Spans.{Entry}
use Rattle.net_gather.specs.declared.around.Around.{Around}
use Rattle.net_gather.specs.declared.cell.Gain.{Gain}
use Rattle.net_gather.specs.declared.counts.Counts.{Counts}
use Rattle.net_gather.specs.declared.file_pin.FilePin.{FilePin}
use Rattle.net_gather.specs.declared.open_pin.OpenPin.{OpenPin}
use Rattle.raw_cells.specs.declared.raw.CellShape.{CellShape}
use Rattle.raw_cells.specs.declared.raw.CellShape.TheVariants as shape
use Rattle.raw_cells.specs.declared.raw.Kept.{Kept}
use Rattle.raw_cells.specs.declared.raw.RawCell.{RawCell}
use Rattle.raw_cells.specs.declared.row.CellRow.{CellRow}
use Rattle.raw_cells.specs.declared.row.CellRow.TheVariants as row
use Rattle.raw_cells.specs.declared.row.Found.{Found}
use Rattle.raw_cells.specs.declared.row.Found.TheVariants as found_as
use Rattle.net_gather.specs.Counts.{count_breaches, counts_behind}
use Rattle.net_gather.specs.Faces.{faces_drive}
use Rattle.net_gather.specs.FilePins.{file_breaches, file_pins}
use Rattle.net_gather.specs.OpenPins.{kept_pins, known_pins, raw_pins, table_pins}
use Rattle.raw_cells.specs.declared.tied.Tied.{Tied}
use Rattle.raw_cells.specs.Rows.{found_row, is_kept, ram_breaches, table_of}
use Rattle.raw_cells.specs.Shaped.{shape_breaches}
use Rattle.net_gather.specs.PortClocks.{clock_breaches}

-- what stands around a cell: the library, the wires of its module, the places of its memories by name, those of RAMs and of modules,
-- which pins of a kept cell are driven, and what connects alone tell of the places of wires
pub record Context : Type 0 where
  pub library : Library
  pub names : List Entry
  pub memory : List ℕ → Option ℕ
  pub ram : List ℕ → Option ℕ
  pub instance : List ℕ → Option ℕ
  pub drives : List ℕ → List ℕ → Bool
  pub tied : Tied

abbrev pub context_of : Around → Context
context_of a = record {
  library = a.library.now;
  names = a.names;
  memory = λ n. found a.memories n;
  ram = λ n. found a.rams.now n;
  instance = λ n. found a.faces.now.modules n;
  drives = λ k p. faces_drive a.faces.now k p;
  tied = a.tied.now;
}

abbrev pub kind_in : Context → List ℕ → CellKind
kind_in x name = kind_of name (x.ram name) (x.instance name)

-- ---- what is gathered

abbrev pub kept_of : DocCell → List Attr → Kept
kept_of c params = record { kind = c.kind; attrs = attrs_of c.attrs; params = params }

abbrev pub comb_shape : DocCell → List Attr → CombRow → CellShape
comb_shape c params r = if is_carried_row r then shape.Carried (kept_of c params) else shape.Comb r

abbrev pub shape_of : DocCell → List Attr → CellRow → CellShape
shape_of c params (row.Comb r) = comb_shape c params r
shape_of c params (row.Reg r) = shape.Reg r
shape_of c params (row.Memory r) = shape.Memory (kept_of c params) r
shape_of c params (row.Ram u) = shape.Ram u
-- this is no cell of a module
shape_of c params row.StrangeRam = shape.Carried (kept_of c params)
shape_of c params row.Kept = shape.Carried (kept_of c params)

-- pins stand in the order of the table, and those of a kept cell in file order
abbrev pub open_pins : Library → (List ℕ → Bool) → CellRow → List FilePin → List OpenPin
open_pins lib drives r pins = if is_kept r then kept_pins drives pins else table_pins pins (table_of lib r)

unfoldable pub row_pins : Context → DocCell → CellRow → List OpenPin
row_pins x c r = open_pins x.library (x.drives c.kind) r (file_pins x.names c.lines)

abbrev pub raw_cell : DocCell → ℕ → List Attr → CellRow → List OpenPin → RawCell
raw_cell c from params r pins = record { name = c.name; shape = shape_of c params r; pins = raw_pins from pins }

-- a cell of this row, behind these counts
unfoldable pub row_gain : Context → Counts → DocCell → List Attr → CellRow → Gain
row_gain x st c params r = record {
  cell = raw_cell c st.places params r (row_pins x c r);
  counts = counts_behind x.memory st r (row_pins x c r);
}

abbrev pub found_gain : Context → Counts → DocCell → List Attr → Found → Option Gain
found_gain x st c params found_as.Unknown = None
found_gain x st c params found_as.Missing = None
found_gain x st c params (found_as.Row r) = Some (row_gain x st c params r)

abbrev pub cell_gain : Context → Counts → DocCell → Option Gain
cell_gain x st c = found_gain x st c (params_of c.lines) (found_row x.library (kind_in x c.kind) (params_of c.lines))

-- ---- what is broken, in this order

-- a RAM cell with these pins has the shape of its variant
abbrev pub open_faults : Context → DocCell → CellRow → List FilePin → List Breach
open_faults x c r pins = shape_breaches x.library x.tied c.name r (known_pins x.tied (open_pins x.library (x.drives c.kind) r pins))

-- its pins, then the clocks of its write ports, and then whether it suits a RAM and has the shape of its variant
unfoldable pub pin_faults : Context → DocCell → List Attr → CellRow → List Breach
pin_faults x c params r =
    file_breaches x.names (table_of x.library r) c.lines
    ++ (clock_breaches r params ++ (ram_breaches x.library r c.lines ++ open_faults x c r (file_pins x.names c.lines)))

unfoldable pub row_faults : Context → Counts → DocCell → List Attr → CellRow → List Breach
row_faults x st c params r = pin_faults x c params r ++ count_breaches x.memory st r (row_pins x c r)

abbrev pub found_faults : Context → Counts → DocCell → List Attr → Found → List Breach
found_faults x st c params found_as.Unknown = breach code.UnknownCell ∷ []
found_faults x st c params found_as.Missing = breach code.MissingParam ∷ []
found_faults x st c params (found_as.Row r) = row_faults x st c params r

abbrev pub cell_breaches : Context → Counts → DocCell → List Breach
cell_breaches x st c = found_faults x st c (params_of c.lines) (found_row x.library (kind_in x c.kind) (params_of c.lines))
