-- The laws of cells: those that are made of gathered cells fit, where nothing is wrong with these.
use Rattle.std.specs.Prelude.{◌≡◌, ℕ, true, List, [], Option, Some, None, length}
use Rattle.lib_core.specs.declared.library.Tri.{Tri}
use Rattle.rtlil_text.specs.declared.doc.DocModule.{DocModule}
use Rattle.rtlil_text.specs.Grammar.{All}
use Rattle.net_core.specs.declared.bits.Bit.{Bit}
use Rattle.net_core.specs.Ports.{Interface}
use Rattle.net_core.specs.Valid.{are_nets, CarriedFits, CombFits, Each, instance_of, is_there, PartFits, RegFits}
use Rattle.cell_rows.specs.declared.pin.PinRow.{PinRow}
use Rattle.net_wires.specs.declared.clock.ClockRoot.{ClockRoot}
use Rattle.raw_cells.specs.declared.raw.RawCell.{RawCell}
use Rattle.raw_cells.specs.declared.raw.RawPin.{RawPin}
use Rattle.net_gather.specs.Cells.{Context}
use Rattle.net_gather.specs.Faces.{carried_drives}
use Rattle.net_gather.specs.FilePins.{in_table}
use Rattle.net_gather.specs.Gather.{faults_of, gathered}
use Rattle.net_gather.specs.Laws.{FitsTable}
use Rattle.raw_cells.specs.Bits.{bits_of, sources_at}
use Rattle.net_module.specs.Assembly.{carried_cells, combs_of, parts_of, regs_of}
use Rattle.net_fits.specs.Written.{IsWritten}

-- ---- pins

abbrev pub width_of : Option PinRow → ℕ
width_of None = 0
width_of (Some r) = r.width

-- The law: the pin of a name has the width that the table gives it, and no bits where the table has no such pin.
abbrev pub PinsHaveWidths : Type 0
PinsHaveWidths = (table : List PinRow) (pins : List RawPin) (name : List ℕ) → FitsTable table pins → length (sources_at pins name) ≡ width_of (in_table table name)

-- each bit of a pin that the cell drives is a net
abbrev pub DrivesNets : List Bit → List RawPin → Type 0
DrivesNets places pins = All (λ (p : RawPin). p.drives ≡ true → are_nets (bits_of places p.bits) ≡ true) pins

abbrev pub CellsDriveNets : List Bit → List RawCell → Type 0
CellsDriveNets places cs = All (λ (c : RawCell). DrivesNets places c.pins) cs

-- ---- modules of the file

-- what stands around a cell tells which types are modules of the file, and which pins of kept cells are driven, as their interfaces do
pub record Knows (modules : List Interface) (x : Context) : Type 0 where
  pub instances : (name : List ℕ) → is_there (x.instance name) ≡ is_there (instance_of modules name)
  pub drives : (kind pin : List ℕ) → x.drives kind pin ≡ carried_drives modules kind pin

-- a module of a text, gathered with nothing wrong, in a file whose modules have these interfaces
pub record IsSound (modules : List Interface) (x : Context) (m : DocModule) : Type 0 where
  pub written : IsWritten m
  pub knows : Knows modules x
  pub faultless : faults_of x m.items ≡ []

-- ---- cells

-- The law: logic cells fit.
abbrev pub CombsFit : Type 0
CombsFit = (modules : List Interface) (x : Context) (m : DocModule) (places : List Bit) → IsSound modules x m → CellsDriveNets places (gathered x m.items).cells
    → Each (combs_of places (gathered x m.items).cells) CombFits

-- The law: registers fit.
abbrev pub RegsFit : Type 0
RegsFit = (modules : List Interface) (x : Context) (m : DocModule) (places : List Bit) (roots : List ClockRoot) (starts : List Tri) → IsSound modules x m → CellsDriveNets places (gathered x m.items).cells
    → Each (regs_of places roots starts (gathered x m.items).cells) RegFits

-- The law: cells that are kept as they are fit.
abbrev pub CarriedCellsFit : Type 0
CarriedCellsFit = (modules : List Interface) (x : Context) (m : DocModule) (places : List Bit) → IsSound modules x m → CellsDriveNets places (gathered x m.items).cells
    → Each (carried_cells places (gathered x m.items).cells) (CarriedFits modules)

-- The law: cells that make up memories fit.
abbrev pub PartsFit : Type 0
PartsFit = (modules : List Interface) (x : Context) (m : DocModule) (places : List Bit) (roots : List ClockRoot) → IsSound modules x m → CellsDriveNets places (gathered x m.items).cells
    → Each (parts_of places roots (gathered x m.items).cells) PartFits
