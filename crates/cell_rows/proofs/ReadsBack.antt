-- What is written is read again.
use Rattle.std.proofs.Common.{◌≡◌, ℕ, ◌<◌, ◌^◌, Bool, true, false, List, [], ◌∷◌, ◌++◌, Option, Some, refl, ap, sym}
use Rattle.std.specs.Prelude.{codes, option_and_then}
use Rattle.lib_core.specs.declared.library.Tri.{Tri}
use Rattle.net_core.specs.declared.cells.FfKind.{FfKind}
use Rattle.net_core.specs.declared.cells.FfKind.TheVariants as ff
use Rattle.net_core.specs.declared.mems.Attr.{Attr}
use Rattle.net_core.specs.Cells.{has_enable, has_arst, has_srst}
use Rattle.cell_consts.specs.Consts.{attr_number, number_attr, flag_attr}
use Rattle.cell_consts.specs.Params.{not_zero, number_at, polarity_at}
use Rattle.cell_consts.proofs.ReadBack.{number_attr_number, flag_attr_number, flag_attr_flag}
use Rattle.cell_rows.specs.declared.operands.Operands.{Operands}
use Rattle.cell_rows.specs.declared.operands.Operands.TheVariants.{One, Alike, Free, Shift, Mux, Pmux}
use Rattle.cell_rows.specs.declared.comb.CombRow.{CombRow}
use Rattle.cell_rows.specs.declared.reg.Controls.{Controls}
use Rattle.cell_rows.specs.declared.reg.RegRow.{RegRow}
use Rattle.cell_rows.specs.Operands.{operands}
use Rattle.cell_rows.specs.Rows.{a_at, b_at, y_at, one_row, two_row, mux_row, pmux_row, mux_of, row_by, controls, reg_row, polarity_if, bits_if as bits_wanted}
use Rattle.cell_rows.specs.Written.{flag_if, bits_if, params_by, comb_params, LacksBy, reg_params, one_params, two_params}
use Rattle.cell_rows.specs.Laws.{CombReadsBack, RegReadsBack}

-- ---- logic cells

operand_back : (f : Option Bool) (n : Option ℕ) (s : Bool) (w : ℕ) → f ≡ Some s → n ≡ Some w → option_and_then {T = Bool} {U = Bool × ℕ} (λ t. option_and_then {T = ℕ} {U = Bool × ℕ} (λ m. Some (t, m)) n) f ≡ Some (s, w)
operand_back f n s w p q = λ i. option_and_then {T = Bool} {U = Bool × ℕ} (λ t. option_and_then {T = ℕ} {U = Bool × ℕ} (λ m. Some (t, m)) (q i)) (p i)

two_back : (row : CombRow) (a b : Option (Bool × ℕ)) (y : Option ℕ) → a ≡ Some (row.a_signed, row.a_width) → b ≡ Some (row.b_signed, row.b_width) → y ≡ Some row.y_width → row.s_width ≡ 0
    → option_and_then {T = Bool × ℕ} (λ p. option_and_then {T = Bool × ℕ} (λ q. option_and_then {T = ℕ} (λ n. Some (record { kind = row.kind; a_signed = p.0; b_signed = q.0; a_width = p.1; b_width = q.1; s_width = 0; y_width = n })) y) b) a ≡ Some row
two_back row a b y p q r s =
    λ i. option_and_then {T = Bool × ℕ} (λ u. option_and_then {T = Bool × ℕ} (λ v. option_and_then {T = ℕ} (λ n. Some (record { kind = row.kind; a_signed = u.0; b_signed = v.0; a_width = u.1; b_width = v.1; s_width = sym s i; y_width = n })) (r i)) (q i)) (p i)

one_back : (row : CombRow) (a : Option (Bool × ℕ)) (y : Option ℕ) → a ≡ Some (row.a_signed, row.a_width) → y ≡ Some row.y_width → (row.b_signed ≡ false) × (row.b_width ≡ 0) × (row.s_width ≡ 0)
    → option_and_then {T = Bool × ℕ} (λ p. option_and_then {T = ℕ} (λ n. Some (record { kind = row.kind; a_signed = p.0; b_signed = false; a_width = p.1; b_width = 0; s_width = 0; y_width = n })) y) a ≡ Some row
one_back row a y p r h =
    λ i. option_and_then {T = Bool × ℕ} (λ u. option_and_then {T = ℕ} (λ n. Some (record { kind = row.kind; a_signed = u.0; b_signed = sym h.0 i; a_width = u.1; b_width = sym h.1 i; s_width = sym h.2 i; y_width = n })) (r i)) (p i)

mux_back : (row : CombRow) (w : Option ℕ) → w ≡ Some row.a_width → LacksBy Mux row → option_and_then {T = ℕ} (λ n. Some (mux_of row.kind n 0)) w ≡ Some row
mux_back row w p h =
    λ i. option_and_then {T = ℕ} (λ n. Some (record { kind = row.kind; a_signed = sym h.0 i; b_signed = sym h.1 i; a_width = n; b_width = sym h.2 i; s_width = sym h.3 i; y_width = sym h.4 i })) (p i)

pmux_back : (row : CombRow) (w s : Option ℕ) → w ≡ Some row.a_width → s ≡ Some row.s_width → LacksBy Pmux row → option_and_then {T = ℕ} (λ n. option_and_then {T = ℕ} (λ m. Some (mux_of row.kind n m)) s) w ≡ Some row
pmux_back row w s p q h =
    λ i. option_and_then {T = ℕ} (λ n. option_and_then {T = ℕ} (λ m. Some (record { kind = row.kind; a_signed = sym h.0 i; b_signed = sym h.1 i; a_width = n; b_width = sym h.2 i; s_width = m; y_width = sym h.3 i })) (q i)) (p i)

two_reads : (row : CombRow) → row.a_width < 2 ^ 32 → row.b_width < 2 ^ 32 → row.y_width < 2 ^ 32 → row.s_width ≡ 0 → two_row row.kind (two_params row) ≡ Some row
unfolding two_row
two_reads row a b y s =
    two_back row (a_at (two_params row)) (b_at (two_params row)) (y_at (two_params row))
    (operand_back _ _ row.a_signed row.a_width (flag_attr_flag (codes "\\A_SIGNED") row.a_signed) (number_attr_number (codes "\\A_WIDTH") row.a_width a))
    (operand_back _ _ row.b_signed row.b_width (flag_attr_flag (codes "\\B_SIGNED") row.b_signed) (number_attr_number (codes "\\B_WIDTH") row.b_width b))
    (number_attr_number (codes "\\Y_WIDTH") row.y_width y) s

reads_by : (o : Operands) (row : CombRow) → LacksBy o row → row.a_width < 2 ^ 32 → row.b_width < 2 ^ 32 → row.s_width < 2 ^ 32 → row.y_width < 2 ^ 32 → row_by o row.kind (params_by o row) ≡ Some row
unfolding one_row mux_row pmux_row
reads_by One row h a b s y =
    one_back row (a_at (one_params row)) (y_at (one_params row))
    (operand_back _ _ row.a_signed row.a_width (flag_attr_flag (codes "\\A_SIGNED") row.a_signed) (number_attr_number (codes "\\A_WIDTH") row.a_width a))
    (number_attr_number (codes "\\Y_WIDTH") row.y_width y) h
reads_by Alike row h a b s y = two_reads row a b y h
reads_by Free row h a b s y = two_reads row a b y h
reads_by Shift row h a b s y = two_reads row a b y h
reads_by Mux row h a b s y = mux_back row _ (number_attr_number (codes "\\WIDTH") row.a_width a) h
reads_by Pmux row h a b s y = pmux_back row _ _ (number_attr_number (codes "\\WIDTH") row.a_width a) (number_attr_number (codes "\\S_WIDTH") row.s_width s) h

pub comb_reads_back : CombReadsBack
unfolding comb_params
comb_reads_back row fits = reads_by (operands row.kind) row fits.lacks fits.a_width fits.b_width fits.s_width fits.y_width

-- ---- registers

level_back : (name : List ℕ) (b : Bool) → not_zero (attr_number (flag_attr name b)) ≡ Some b
level_back name true = ap not_zero (flag_attr_number name true)
level_back name false = ap not_zero (flag_attr_number name false)

-- the parameters that a register's row is read from, one by one
record Says (k : FfKind) (row : RegRow) (params : List Attr) : Type 0 where
  width : number_at params (codes "\\WIDTH") ≡ Some row.controls.width
  rising : polarity_at params (codes "\\CLK_POLARITY") ≡ Some row.controls.rising
  en_high : polarity_if (has_enable k) params (codes "\\EN_POLARITY") ≡ Some row.controls.en_high
  arst_high : polarity_if (has_arst k) params (codes "\\ARST_POLARITY") ≡ Some row.controls.arst_high
  arst_value : bits_wanted (has_arst k) params (codes "\\ARST_VALUE") ≡ Some row.arst_value
  srst_high : polarity_if (has_srst k) params (codes "\\SRST_POLARITY") ≡ Some row.controls.srst_high
  srst_value : bits_wanted (has_srst k) params (codes "\\SRST_VALUE") ≡ Some row.srst_value

controls_back : (k : FfKind) (row : RegRow) (params : List Attr) → Says k row params → controls k params ≡ Some row.controls
unfolding controls
controls_back k row params s =
    λ i. option_and_then {T = ℕ} {U = Controls} (λ w. option_and_then {T = Bool} {U = Controls} (λ r. option_and_then {T = Bool} {U = Controls} (λ e. option_and_then {T = Bool} {U = Controls} (λ a. option_and_then {T = Bool} {U = Controls} (λ t.
    Some (record { width = w; rising = r; en_high = e; arst_high = a; srst_high = t })) (s.srst_high i)) (s.arst_high i)) (s.en_high i)) (s.rising i)) (s.width i)

says_reads : (row : RegRow) (params : List Attr) → Says row.kind row params → reg_row row.kind params ≡ Some row
unfolding reg_row
says_reads row params s =
    let c = controls_back row.kind row params s in
    λ i. option_and_then {T = Controls} {U = RegRow} (λ x. option_and_then {T = List Tri} {U = RegRow} (λ a. option_and_then {T = List Tri} {U = RegRow} (λ v.
    Some (record { kind = row.kind; controls = x; arst_value = a; srst_value = v })) (s.srst_value i)) (s.arst_value i)) (c i)

-- what is written for a kind
abbrev written_for : FfKind → RegRow → List Attr
written_for k row =
    (number_attr (codes "\\WIDTH") row.controls.width ∷ flag_attr (codes "\\CLK_POLARITY") row.controls.rising ∷ [])
    ++ flag_if (has_enable k) (codes "\\EN_POLARITY") row.controls.en_high
    ++ flag_if (has_arst k) (codes "\\ARST_POLARITY") row.controls.arst_high
    ++ bits_if (has_arst k) (codes "\\ARST_VALUE") row.arst_value
    ++ flag_if (has_srst k) (codes "\\SRST_POLARITY") row.controls.srst_high
    ++ bits_if (has_srst k) (codes "\\SRST_VALUE") row.srst_value

-- what a pin that is lacking has
record Lacking (k : FfKind) (row : RegRow) : Type 0 where
  en : has_enable k ≡ false → Some row.controls.en_high ≡ Some false
  arst : has_arst k ≡ false → Some row.controls.arst_high ≡ Some false
  arst_value : has_arst k ≡ false → Some row.arst_value ≡ Some []
  srst : has_srst k ≡ false → Some row.controls.srst_high ≡ Some false
  srst_value : has_srst k ≡ false → Some row.srst_value ≡ Some []

says_written : (k : FfKind) (row : RegRow) → row.controls.width < 2 ^ 32 → Lacking k row → Says k row (written_for k row)
says_written ff.Dff row w l = record { width = number_attr_number (codes "\\WIDTH") row.controls.width w; rising = level_back (codes "\\CLK_POLARITY") row.controls.rising; en_high = sym (l.en refl); arst_high = sym (l.arst refl); arst_value = sym (l.arst_value refl); srst_high = sym (l.srst refl); srst_value = sym (l.srst_value refl) }
says_written ff.Dffe row w l = record { width = number_attr_number (codes "\\WIDTH") row.controls.width w; rising = level_back (codes "\\CLK_POLARITY") row.controls.rising; en_high = level_back (codes "\\EN_POLARITY") row.controls.en_high; arst_high = sym (l.arst refl); arst_value = sym (l.arst_value refl); srst_high = sym (l.srst refl); srst_value = sym (l.srst_value refl) }
says_written ff.Adff row w l = record { width = number_attr_number (codes "\\WIDTH") row.controls.width w; rising = level_back (codes "\\CLK_POLARITY") row.controls.rising; en_high = sym (l.en refl); arst_high = level_back (codes "\\ARST_POLARITY") row.controls.arst_high; arst_value = refl; srst_high = sym (l.srst refl); srst_value = sym (l.srst_value refl) }
says_written ff.Adffe row w l = record { width = number_attr_number (codes "\\WIDTH") row.controls.width w; rising = level_back (codes "\\CLK_POLARITY") row.controls.rising; en_high = level_back (codes "\\EN_POLARITY") row.controls.en_high; arst_high = level_back (codes "\\ARST_POLARITY") row.controls.arst_high; arst_value = refl; srst_high = sym (l.srst refl); srst_value = sym (l.srst_value refl) }
says_written ff.Sdff row w l = record { width = number_attr_number (codes "\\WIDTH") row.controls.width w; rising = level_back (codes "\\CLK_POLARITY") row.controls.rising; en_high = sym (l.en refl); arst_high = sym (l.arst refl); arst_value = sym (l.arst_value refl); srst_high = level_back (codes "\\SRST_POLARITY") row.controls.srst_high; srst_value = refl }
says_written ff.Sdffe row w l = record { width = number_attr_number (codes "\\WIDTH") row.controls.width w; rising = level_back (codes "\\CLK_POLARITY") row.controls.rising; en_high = level_back (codes "\\EN_POLARITY") row.controls.en_high; arst_high = sym (l.arst refl); arst_value = sym (l.arst_value refl); srst_high = level_back (codes "\\SRST_POLARITY") row.controls.srst_high; srst_value = refl }
says_written ff.Sdffce row w l = record { width = number_attr_number (codes "\\WIDTH") row.controls.width w; rising = level_back (codes "\\CLK_POLARITY") row.controls.rising; en_high = level_back (codes "\\EN_POLARITY") row.controls.en_high; arst_high = sym (l.arst refl); arst_value = sym (l.arst_value refl); srst_high = level_back (codes "\\SRST_POLARITY") row.controls.srst_high; srst_value = refl }

pub reg_reads_back : RegReadsBack
unfolding reg_params
reg_reads_back row fits =
    says_reads row (reg_params row) (says_written row.kind row fits.width (record {
      en = λ h. ap (λ b. Some b) (fits.no_en h);
      arst = λ h. ap (λ b. Some b) (fits.no_arst h).0;
      arst_value = λ h. ap (λ v. Some v) (fits.no_arst h).1;
      srst = λ h. ap (λ b. Some b) (fits.no_srst h).0;
      srst_value = λ h. ap (λ v. Some v) (fits.no_srst h).1;
    }))
