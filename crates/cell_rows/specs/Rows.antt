-- What the parameters of a logic cell or of a register say. Each parameter that the kind has must be there; widths and
-- active levels must be numbers. (Yosys manual, word-level cells.)
use Rattle.std.specs.Prelude.{ℕ, Bool, true, false, ◌||◌, List, [], Option, Some, option_and_then, codes}
use Rattle.lib_core.specs.declared.library.Tri.{Tri}
use Rattle.net_core.specs.declared.cells.CombKind.{CombKind}
use Rattle.net_core.specs.declared.cells.FfKind.{FfKind}
use Rattle.net_core.specs.declared.mems.Attr.{Attr}
use Rattle.net_core.specs.Cells.{has_enable, has_arst, has_srst}
use Rattle.net_core.specs.Logic.{xor}
use Rattle.cell_consts.specs.Params.{number_at, polarity_at, flag_at, bits_at}
use Rattle.cell_rows.specs.declared.operands.Operands.{Operands}
use Rattle.cell_rows.specs.declared.operands.Operands.TheVariants.{One, Alike, Free, Shift, Mux, Pmux}
use Rattle.cell_rows.specs.declared.comb.CombRow.{CombRow}
use Rattle.cell_rows.specs.declared.reg.Controls.{Controls}
use Rattle.cell_rows.specs.declared.reg.RegRow.{RegRow}
use Rattle.cell_rows.specs.Operands.{operands}

-- ---- logic cells

-- the parameters of an operand: its sign and its width
abbrev pub Operand : Type 0
Operand = Bool × ℕ

abbrev pub operand_at : List Attr → List ℕ → List ℕ → Option (Bool × ℕ)
operand_at params signed width = option_and_then (λ s. option_and_then (λ w. Some (s, w)) (number_at params width)) (flag_at params signed)

abbrev pub a_at : List Attr → Option (Bool × ℕ)
a_at params = operand_at params (codes "\\A_SIGNED") (codes "\\A_WIDTH")

abbrev pub b_at : List Attr → Option (Bool × ℕ)
b_at params = operand_at params (codes "\\B_SIGNED") (codes "\\B_WIDTH")

abbrev pub y_at : List Attr → Option ℕ
y_at params = number_at params (codes "\\Y_WIDTH")

unfoldable pub one_row : CombKind → List Attr → Option CombRow
one_row k params =
    option_and_then (λ a. option_and_then (λ y. Some (record { kind = k; a_signed = a.0; b_signed = false; a_width = a.1; b_width = 0; s_width = 0; y_width = y })) (y_at params)) (a_at params)

unfoldable pub two_row : CombKind → List Attr → Option CombRow
two_row k params =
    option_and_then (λ a. option_and_then (λ b. option_and_then (λ y. Some (record { kind = k; a_signed = a.0; b_signed = b.0; a_width = a.1; b_width = b.1; s_width = 0; y_width = y })) (y_at params)) (b_at params)) (a_at params)

-- a multiplexer has one width for A and Y, and its operands have no signs
abbrev pub mux_of : CombKind → ℕ → ℕ → CombRow
mux_of k width selectors = record { kind = k; a_signed = false; b_signed = false; a_width = width; b_width = 0; s_width = selectors; y_width = 0 }

unfoldable pub mux_row : CombKind → List Attr → Option CombRow
mux_row k params = option_and_then (λ w. Some (mux_of k w 0)) (number_at params (codes "\\WIDTH"))

unfoldable pub pmux_row : CombKind → List Attr → Option CombRow
pmux_row k params = option_and_then (λ w. option_and_then (λ s. Some (mux_of k w s)) (number_at params (codes "\\S_WIDTH"))) (number_at params (codes "\\WIDTH"))

abbrev pub row_by : Operands → CombKind → List Attr → Option CombRow
row_by One k params = one_row k params
row_by Alike k params = two_row k params
row_by Free k params = two_row k params
row_by Shift k params = two_row k params
row_by Mux k params = mux_row k params
row_by Pmux k params = pmux_row k params

abbrev pub comb_row : CombKind → List Attr → Option CombRow
comb_row k params = row_by (operands k) k params

-- Cells that are kept as they are for the signs of their operands: where these differ, though the result depends on both,
-- and where an operand of a shift is signed.
abbrev pub carried_by : Operands → Bool → Bool → Bool
carried_by One a b = false
carried_by Alike a b = xor a b
carried_by Free a b = false
carried_by Shift a b = a || b
carried_by Mux a b = false
carried_by Pmux a b = false

abbrev pub is_carried_row : CombRow → Bool
is_carried_row row = carried_by (operands row.kind) row.a_signed row.b_signed

-- ---- registers

-- the active level of a pin that the kind has; false for one that it lacks
abbrev pub polarity_if : Bool → List Attr → List ℕ → Option Bool
polarity_if true params name = polarity_at params name
polarity_if false params name = Some false

-- a value of a pin that the kind has; empty for one that it lacks
abbrev pub bits_if : Bool → List Attr → List ℕ → Option (List Tri)
bits_if true params name = bits_at params name
bits_if false params name = Some []

-- the width, the edge and the active levels
unfoldable pub controls : FfKind → List Attr → Option Controls
controls k params =
    option_and_then (λ w. option_and_then (λ r. option_and_then (λ e. option_and_then (λ a. option_and_then (λ s.
    Some (record { width = w; rising = r; en_high = e; arst_high = a; srst_high = s }))
    (polarity_if (has_srst k) params (codes "\\SRST_POLARITY"))) (polarity_if (has_arst k) params (codes "\\ARST_POLARITY"))) (polarity_if (has_enable k) params (codes "\\EN_POLARITY")))
    (polarity_at params (codes "\\CLK_POLARITY"))) (number_at params (codes "\\WIDTH"))

unfoldable pub reg_row : FfKind → List Attr → Option RegRow
reg_row k params =
    option_and_then (λ c. option_and_then (λ a. option_and_then (λ s.
    Some (record { kind = k; controls = c; arst_value = a; srst_value = s }))
    (bits_if (has_srst k) params (codes "\\SRST_VALUE"))) (bits_if (has_arst k) params (codes "\\ARST_VALUE"))) (controls k params)
