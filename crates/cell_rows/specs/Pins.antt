-- The pins of logic cells and registers in the order of the tables, with their widths. (Yosys manual, word-level cells.)
use Rattle.std.specs.Prelude.{ℕ, ◌*◌, Bool, true, false, List, [], ◌∷◌, ◌++◌, codes, if◌then◌else◌}
use Rattle.net_core.specs.Cells.{has_enable, has_arst, has_srst}
use Rattle.cell_rows.specs.declared.operands.Operands.{Operands}
use Rattle.cell_rows.specs.declared.operands.Operands.TheVariants.{One, Alike, Free, Shift, Mux, Pmux}
use Rattle.cell_rows.specs.declared.comb.CombRow.{CombRow}
use Rattle.cell_rows.specs.declared.reg.RegRow.{RegRow}
use Rattle.cell_rows.specs.declared.pin.PinRow.{PinRow}
use Rattle.cell_rows.specs.Operands.{operands}

-- a pin that is read
abbrev pub input : List ℕ → ℕ → PinRow
input name width = record { name = name; width = width; drives = false; clock = false }

-- a pin that the cell drives
abbrev pub output : List ℕ → ℕ → PinRow
output name width = record { name = name; width = width; drives = true; clock = false }

-- a clock
abbrev pub clock : List ℕ → PinRow
clock name = record { name = name; width = 1; drives = false; clock = true }

abbrev pub one_pins : CombRow → List PinRow
one_pins row = input (codes "\\A") row.a_width ∷ output (codes "\\Y") row.y_width ∷ []

abbrev pub two_pins : CombRow → List PinRow
two_pins row = input (codes "\\A") row.a_width ∷ input (codes "\\B") row.b_width ∷ output (codes "\\Y") row.y_width ∷ []

-- B has a slice for each selector
abbrev pub mux_pins : ℕ → ℕ → List PinRow
mux_pins width selectors = input (codes "\\A") width ∷ input (codes "\\B") (width * selectors) ∷ input (codes "\\S") selectors ∷ output (codes "\\Y") width ∷ []

abbrev pub pins_by : Operands → CombRow → List PinRow
pins_by One row = one_pins row
pins_by Alike row = two_pins row
pins_by Free row = two_pins row
pins_by Shift row = two_pins row
pins_by Mux row = mux_pins row.a_width 1
pins_by Pmux row = mux_pins row.a_width row.s_width

unfoldable pub comb_pins : CombRow → List PinRow
comb_pins row = pins_by (operands row.kind) row

abbrev pub pin_if : Bool → List ℕ → List PinRow
pin_if has name = if has then input name 1 ∷ [] else []

unfoldable pub reg_pins : RegRow → List PinRow
reg_pins row =
    (clock (codes "\\CLK") ∷ input (codes "\\D") row.controls.width ∷ output (codes "\\Q") row.controls.width ∷ [])
    ++ pin_if (has_arst row.kind) (codes "\\ARST") ++ pin_if (has_srst row.kind) (codes "\\SRST") ++ pin_if (has_enable row.kind) (codes "\\EN")
