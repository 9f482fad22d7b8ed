-- Whether a cell of a RAM has the shape of its variant, as far as connects alone tell which of its bits are constant.
use Rattle.std.specs.Prelude.{ℕ, Bool, false, List, [], ◌∷◌, Option, Some, None, if◌then◌else◌}
use Rattle.lib_core.specs.declared.library.Library.{Library}
use Rattle.lib_core.specs.declared.library.Variant.{Variant}
use Rattle.net_core.specs.Shape.{fits_library}
use Rattle.net_wires.specs.declared.breach.Breach.{Breach}
use Rattle.net_wires.specs.declared.breach.BuildCode.TheVariants as code
use Rattle.net_wires.specs.Finds.{breach}
use Rattle.raw_cells.specs.declared.raw.RamUse.{RamUse}
use Rattle.raw_cells.specs.declared.raw.RawPin.{RawPin}
use Rattle.raw_cells.specs.declared.row.CellRow.{CellRow}
use Rattle.raw_cells.specs.declared.row.CellRow.TheVariants as row
use Rattle.raw_cells.specs.declared.tied.Tied.{Tied}
use Rattle.raw_cells.specs.RamCells.{ram_of}
use Rattle.raw_cells.specs.Rows.{variant_of}

-- the pins are at places of wires, and at the two places behind them
abbrev pub fits_tied : Library → Tied → List ℕ → RamUse → Option Variant → List RawPin → Bool
fits_tied lib t name u None pins = false
fits_tied lib t name u (Some v) pins = fits_library lib (ram_of t.places t.roots name u v pins)

abbrev pub shape_breaches : Library → Tied → List ℕ → CellRow → List RawPin → List Breach
shape_breaches lib t name (row.Comb r) pins = []
shape_breaches lib t name (row.Reg r) pins = []
shape_breaches lib t name (row.Memory r) pins = []
shape_breaches lib t name (row.Ram u) pins = if fits_tied lib t name u (variant_of lib u) pins then [] else breach code.BadRam ∷ []
shape_breaches lib t name row.StrangeRam pins = []
shape_breaches lib t name row.Kept pins = []
