-- What each cell of a module becomes, once each place has its bit, each clock its root and each net its value at the start.
use Rattle.std.specs.Prelude.{ℕ, List, [], ◌∷◌, map, Option, Some, None}
use Rattle.std.specs.List.{flat_map}
use Rattle.lib_core.specs.declared.library.Library.{Library}
use Rattle.lib_core.specs.declared.library.Tri.{Tri}
use Rattle.lib_core.specs.declared.library.Variant.{Variant}
use Rattle.net_core.specs.declared.bits.Bit.{Bit}
use Rattle.net_core.specs.declared.cells.Carried.{Carried}
use Rattle.net_core.specs.declared.cells.Comb.{Comb}
use Rattle.net_core.specs.declared.cells.Reg.{Reg}
use Rattle.net_core.specs.declared.modules.MemPart.{MemPart}
use Rattle.net_core.specs.declared.rams.RamCell.{RamCell}
use Rattle.net_wires.specs.declared.clock.ClockRoot.{ClockRoot}
use Rattle.raw_cells.specs.declared.raw.CellShape.{CellShape}
use Rattle.raw_cells.specs.declared.raw.CellShape.TheVariants as shape
use Rattle.raw_cells.specs.declared.raw.RawCell.{RawCell}
use Rattle.raw_cells.specs.declared.raw.RawPin.{RawPin}
use Rattle.raw_cells.specs.declared.raw.RamUse.{RamUse}
use Rattle.raw_cells.specs.Rows.{variant_of}
use Rattle.net_cells.specs.Cells.{carried_of, comb_of, reg_of}
use Rattle.net_cells.specs.Parts.{part_of}
use Rattle.net_module.specs.declared.made.Around.{Around}
use Rattle.net_module.specs.Assembly.{ram_under}
use Rattle.net_module.specs.declared.made.Made.{Made}
use Rattle.net_module.specs.declared.made.Made.TheVariants as made

-- what stands around the cells: the library, the bit of each place, the clock root of each place, the value at the start of
-- each net
pub record Wiring : Type 0 where
  pub library : Library
  pub places : List Bit
  pub roots : List ClockRoot
  pub starts : List Tri

-- the wiring that the code hands on
abbrev pub wiring : Around → Wiring
wiring a = record { library = a.library.now; places = a.places.now; roots = a.roots.now; starts = a.starts.now }

-- a cell of this name and shape, with these pins
abbrev pub shaped : Wiring → List ℕ → List RawPin → CellShape → Made
shaped w name pins (shape.Comb r) = made.Comb (comb_of w.places name r pins)
shaped w name pins (shape.Reg r) = made.Reg (reg_of w.places w.roots w.starts name r pins)
shaped w name pins (shape.Carried k) = made.Carried (carried_of w.places name k pins)
shaped w name pins (shape.Memory k r) = made.Part (part_of w.places w.roots name k r pins)
shaped w name pins (shape.Ram u) = made.Ram (ram_under w.library w.places w.roots name u (variant_of w.library u) pins)

abbrev pub made_of : Wiring → RawCell → Made
made_of w c = shaped w c.name c.pins c.shape

-- ---- the lists of a module

abbrev pub comb_in : Made → List Comb
comb_in (made.Comb c) = c ∷ []
comb_in (made.Reg r) = []
comb_in (made.Ram c) = []
comb_in (made.Carried c) = []
comb_in (made.Part p) = []

abbrev pub reg_in : Made → List Reg
reg_in (made.Comb c) = []
reg_in (made.Reg r) = r ∷ []
reg_in (made.Ram c) = []
reg_in (made.Carried c) = []
reg_in (made.Part p) = []

abbrev pub ram_in : Made → List RamCell
ram_in (made.Comb c) = []
ram_in (made.Reg r) = []
ram_in (made.Ram c) = c ∷ []
ram_in (made.Carried c) = []
ram_in (made.Part p) = []

abbrev pub carried_in : Made → List Carried
carried_in (made.Comb c) = []
carried_in (made.Reg r) = []
carried_in (made.Ram c) = []
carried_in (made.Carried c) = c ∷ []
carried_in (made.Part p) = []

abbrev pub part_in : Made → List MemPart
part_in (made.Comb c) = []
part_in (made.Reg r) = []
part_in (made.Ram c) = []
part_in (made.Carried c) = []
part_in (made.Part p) = p ∷ []
