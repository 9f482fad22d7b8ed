-- Logic cells and registers by their types, parameters and pins: what a reader of cells makes them of.
use Rattle.std.specs.Prelude.{ℕ, Bool, true, false, List, [], ◌∷◌, ◌++◌, map, length, codes, if◌then◌else◌}
use Rattle.net_core.specs.declared.bits.Bit.{Bit}
use Rattle.net_core.specs.declared.bits.Bit.TheVariants.{Zero, Net}
use Rattle.net_core.specs.declared.bits.Clock.{Clock}
use Rattle.net_core.specs.declared.bits.Clock.TheVariants.{Root, Never}
use Rattle.net_core.specs.declared.cells.Carried.{Carried}
use Rattle.net_core.specs.declared.cells.Comb.{Comb}
use Rattle.net_core.specs.declared.cells.Pin.{Pin}
use Rattle.net_core.specs.declared.cells.Reg.{Reg}
use Rattle.net_core.specs.Cells.{has_enable, has_arst, has_srst}
use Rattle.cell_table.specs.Names.{comb_type, ff_type}
use Rattle.cell_rows.specs.declared.comb.CombRow.{CombRow}
use Rattle.cell_rows.specs.declared.operands.Operands.{Operands}
use Rattle.cell_rows.specs.declared.operands.Operands.TheVariants.{One, Alike, Free, Shift, Mux, Pmux}
use Rattle.cell_rows.specs.declared.reg.Controls.{Controls}
use Rattle.cell_rows.specs.declared.reg.RegRow.{RegRow}
use Rattle.cell_rows.specs.Operands.{operands}
use Rattle.cell_rows.specs.Written.{comb_params, reg_params}

-- ---- pins

abbrev pub nets_as_bits : List ℕ → List Bit
nets_as_bits nets = map (λ n. Net n) nets

abbrev pub input : List ℕ → List Bit → Pin
input name bits = record { name = name; drives = false; bits = bits }

abbrev pub output : List ℕ → List ℕ → Pin
output name nets = record { name = name; drives = true; bits = nets_as_bits nets }

abbrev pub input_if : Bool → List ℕ → List Bit → List Pin
input_if has name bits = if has then input name bits ∷ [] else []

-- ---- logic cells

-- a multiplexer has one width for A and Y
abbrev pub mux_row : Comb → ℕ → ℕ → CombRow
mux_row c width selectors = record { kind = c.kind; a_signed = false; b_signed = false; a_width = width; b_width = 0; s_width = selectors; y_width = 0 }

abbrev pub one_row : Comb → CombRow
one_row c = record { kind = c.kind; a_signed = c.signed; b_signed = false; a_width = length c.a; b_width = 0; s_width = 0; y_width = length c.y }

abbrev pub two_row : Comb → CombRow
two_row c = record { kind = c.kind; a_signed = c.signed; b_signed = c.signed; a_width = length c.a; b_width = length c.b; s_width = 0; y_width = length c.y }

-- a parameter that the kind lacks is false or 0
abbrev pub row_by : Operands → Comb → CombRow
row_by One c = one_row c
row_by Alike c = two_row c
row_by Free c = two_row c
row_by Shift c = two_row c
row_by Mux c = mux_row c (length c.y) 0
row_by Pmux c = mux_row c (length c.y) (length c.s)

unfoldable pub comb_row_of : Comb → CombRow
comb_row_of c = row_by (operands c.kind) c

abbrev pub has_b : Operands → Bool
has_b One = false
has_b Alike = true
has_b Free = true
has_b Shift = true
has_b Mux = true
has_b Pmux = true

abbrev pub has_s : Operands → Bool
has_s One = false
has_s Alike = false
has_s Free = false
has_s Shift = false
has_s Mux = true
has_s Pmux = true

-- in the order of the cell library
unfoldable pub comb_pins_of : Comb → List Pin
comb_pins_of c =
    ((input (codes "\\A") c.a ∷ [])
    ++ input_if (has_b (operands c.kind)) (codes "\\B") c.b)
    ++ input_if (has_s (operands c.kind)) (codes "\\S") c.s
    ++ output (codes "\\Y") c.y ∷ []

unfoldable pub comb_cell : Comb → Carried
comb_cell c = record { name = c.name; kind = comb_type c.kind; attrs = []; params = comb_params (comb_row_of c); pins = comb_pins_of c }

-- ---- registers

-- a clock that never ticks is the constant 0, and is written as one of rising edges
abbrev pub root_bit : Clock → Bit
root_bit (Root net rising) = Net net
root_bit Never = Zero

abbrev pub rises : Clock → Bool
rises (Root net rising) = rising
rises Never = true

abbrev pub controls_of : Reg → Controls
controls_of r = record { width = length r.q; rising = rises r.clock; en_high = r.en_high; arst_high = r.arst_high; srst_high = r.srst_high }

abbrev pub reg_row_of : Reg → RegRow
reg_row_of r = record { kind = r.kind; controls = controls_of r; arst_value = r.arst_value; srst_value = r.srst_value }

unfoldable pub data_pins : Reg → List Pin
data_pins r = input (codes "\\CLK") (root_bit r.clock ∷ []) ∷ input (codes "\\D") r.d ∷ output (codes "\\Q") r.q ∷ []

-- in the order of the cell library
unfoldable pub reg_pins_of : Reg → List Pin
reg_pins_of r =
    ((data_pins r
    ++ input_if (has_arst r.kind) (codes "\\ARST") (r.arst ∷ []))
    ++ input_if (has_srst r.kind) (codes "\\SRST") (r.srst ∷ []))
    ++ input_if (has_enable r.kind) (codes "\\EN") (r.en ∷ [])

unfoldable pub reg_cell : Reg → Carried
reg_cell r = record { name = r.name; kind = ff_type r.kind; attrs = []; params = reg_params (reg_row_of r); pins = reg_pins_of r }
