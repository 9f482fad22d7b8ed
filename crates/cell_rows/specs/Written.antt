-- The parameters by which a row is written.
use Rattle.std.specs.Prelude.{◌≡◌, ℕ, ◌<◌, ◌^◌, Bool, false, List, [], ◌∷◌, ◌++◌, codes, if◌then◌else◌}
use Rattle.lib_core.specs.declared.library.Tri.{Tri}
use Rattle.net_core.specs.declared.mems.Attr.{Attr}
use Rattle.net_core.specs.Cells.{has_enable, has_arst, has_srst}
use Rattle.cell_consts.specs.Consts.{number_attr, flag_attr, bits_attr}
use Rattle.cell_rows.specs.declared.operands.Operands.{Operands}
use Rattle.cell_rows.specs.declared.operands.Operands.TheVariants.{One, Alike, Free, Shift, Mux, Pmux}
use Rattle.cell_rows.specs.declared.comb.CombRow.{CombRow}
use Rattle.cell_rows.specs.declared.reg.RegRow.{RegRow}
use Rattle.cell_rows.specs.Operands.{operands}

-- ---- logic cells

abbrev pub one_params : CombRow → List Attr
one_params row =
    flag_attr (codes "\\A_SIGNED") row.a_signed ∷ number_attr (codes "\\A_WIDTH") row.a_width ∷ number_attr (codes "\\Y_WIDTH") row.y_width ∷ []

abbrev pub two_params : CombRow → List Attr
two_params row =
    flag_attr (codes "\\A_SIGNED") row.a_signed ∷ number_attr (codes "\\A_WIDTH") row.a_width ∷ flag_attr (codes "\\B_SIGNED") row.b_signed ∷ number_attr (codes "\\B_WIDTH") row.b_width
    ∷ number_attr (codes "\\Y_WIDTH") row.y_width ∷ []

abbrev pub mux_params : CombRow → List Attr
mux_params row = number_attr (codes "\\WIDTH") row.a_width ∷ []

abbrev pub pmux_params : CombRow → List Attr
pmux_params row = number_attr (codes "\\WIDTH") row.a_width ∷ number_attr (codes "\\S_WIDTH") row.s_width ∷ []

abbrev pub params_by : Operands → CombRow → List Attr
params_by One row = one_params row
params_by Alike row = two_params row
params_by Free row = two_params row
params_by Shift row = two_params row
params_by Mux row = mux_params row
params_by Pmux row = pmux_params row

unfoldable pub comb_params : CombRow → List Attr
comb_params row = params_by (operands row.kind) row

-- a field is false or 0 where the kind has no parameter for it
abbrev pub LacksBy : Operands → CombRow → Type 0
LacksBy One row = (row.b_signed ≡ false) × (row.b_width ≡ 0) × (row.s_width ≡ 0)
LacksBy Alike row = row.s_width ≡ 0
LacksBy Free row = row.s_width ≡ 0
LacksBy Shift row = row.s_width ≡ 0
LacksBy Mux row = (row.a_signed ≡ false) × (row.b_signed ≡ false) × (row.b_width ≡ 0) × (row.s_width ≡ 0) × (row.y_width ≡ 0)
LacksBy Pmux row = (row.a_signed ≡ false) × (row.b_signed ≡ false) × (row.b_width ≡ 0) × (row.y_width ≡ 0)

pub record CombRowFits (row : CombRow) : Type 0 where
  pub lacks : LacksBy (operands row.kind) row
  pub a_width : row.a_width < 2 ^ 32
  pub b_width : row.b_width < 2 ^ 32
  pub s_width : row.s_width < 2 ^ 32
  pub y_width : row.y_width < 2 ^ 32

-- ---- registers

abbrev pub flag_if : Bool → List ℕ → Bool → List Attr
flag_if has name set = if has then flag_attr name set ∷ [] else []

abbrev pub bits_if : Bool → List ℕ → List Tri → List Attr
bits_if has name bits = if has then bits_attr name bits ∷ [] else []

unfoldable pub reg_params : RegRow → List Attr
reg_params row =
    (number_attr (codes "\\WIDTH") row.controls.width ∷ flag_attr (codes "\\CLK_POLARITY") row.controls.rising ∷ [])
    ++ flag_if (has_enable row.kind) (codes "\\EN_POLARITY") row.controls.en_high
    ++ flag_if (has_arst row.kind) (codes "\\ARST_POLARITY") row.controls.arst_high
    ++ bits_if (has_arst row.kind) (codes "\\ARST_VALUE") row.arst_value
    ++ flag_if (has_srst row.kind) (codes "\\SRST_POLARITY") row.controls.srst_high
    ++ bits_if (has_srst row.kind) (codes "\\SRST_VALUE") row.srst_value

-- the level of a pin that the kind lacks is false, and its value empty
pub record RegRowFits (row : RegRow) : Type 0 where
  pub width : row.controls.width < 2 ^ 32
  pub no_en : has_enable row.kind ≡ false → row.controls.en_high ≡ false
  pub no_arst : has_arst row.kind ≡ false → (row.controls.arst_high ≡ false) × (row.arst_value ≡ [])
  pub no_srst : has_srst row.kind ≡ false → (row.controls.srst_high ≡ false) × (row.srst_value ≡ [])
