-- What is known of the rows of cells.
use Rattle.std.proofs.Common.{◌≡◌, ℕ, ◌<◌, ◌^◌, Bool, true, false, ◌&&◌, List, Option, Some, None, codes, refl, sym, ap, ◌∙◌, subst, arith}
use Rattle.std.specs.Prelude.{if◌then◌else◌, nat_lt, option_and_then}
use Rattle.std.specs.List.{list_all}
use Rattle.std.proofs.lemmas.Bool.Decides.{nat_tests}
use Rattle.std.proofs.lemmas.Option.{same_Some}
use Rattle.lib_core.specs.declared.library.Tri.{Tri}
use Rattle.net_core.specs.declared.cells.CombKind.{CombKind}
use Rattle.net_core.specs.declared.cells.FfKind.{FfKind}
use Rattle.net_core.specs.declared.mems.Attr.{Attr}
use Rattle.net_core.specs.Cells.{has_arst, has_enable, has_srst}
use Rattle.cell_consts.specs.Consts.{attr_number, is_known, number_of_bits, value_of}
use Rattle.cell_consts.specs.Params.{named, number_at}
use Rattle.cell_rows.specs.declared.comb.CombRow.{CombRow}
use Rattle.cell_rows.specs.declared.operands.Operands.{Operands}
use Rattle.cell_rows.specs.declared.operands.Operands.TheVariants.{One, Alike, Free, Shift, Mux, Pmux}
use Rattle.cell_rows.specs.declared.reg.Controls.{Controls}
use Rattle.cell_rows.specs.declared.reg.RegRow.{RegRow}
use Rattle.cell_rows.specs.Operands.{operands}
use Rattle.cell_rows.specs.Rows.{a_at, b_at, bits_if, comb_row, controls, mux_of, mux_row, one_row, pmux_row, polarity_if, reg_row, row_by, two_row, y_at}
use Rattle.mem_rows.specs.declared.row.MemRow.{MemRow}
use Rattle.mem_rows.specs.declared.row.MemRow.TheVariants as memory
use Rattle.mem_rows.specs.declared.whole.WholeRow.{WholeRow}
use Rattle.mem_rows.specs.Rows.{has_all, has_groups, number, or_zero, whole_fields, whole_row}

-- ---- logic cells

-- a multiplexer has no sign
abbrev pub Unsigned : Operands → Bool → Type 0
Unsigned One s = Unit {0}
Unsigned Alike s = Unit {0}
Unsigned Free s = Unit {0}
Unsigned Shift s = Unit {0}
Unsigned Mux s = s ≡ false
Unsigned Pmux s = s ≡ false

one_kind : (a : Option (Bool × ℕ)) (y : Option ℕ) (k : CombKind) (q : CombRow)
    → option_and_then (λ a. option_and_then (λ y. Some (record { kind = k; a_signed = a.0; b_signed = false; a_width = a.1; b_width = 0; s_width = 0; y_width = y })) y) a ≡ Some q → k ≡ q.kind
one_kind None y k q e = absurd cc
one_kind (Some a) None k q e = absurd cc
one_kind (Some a) (Some y) k q e = ap (λ (r : CombRow). r.kind) (same_Some _ q e)

two_kind : (a b : Option (Bool × ℕ)) (y : Option ℕ) (k : CombKind) (q : CombRow)
    → option_and_then (λ a. option_and_then (λ b. option_and_then (λ y. Some (record { kind = k; a_signed = a.0; b_signed = b.0; a_width = a.1; b_width = b.1; s_width = 0; y_width = y })) y) b) a ≡ Some q → k ≡ q.kind
two_kind None b y k q e = absurd cc
two_kind (Some a) None y k q e = absurd cc
two_kind (Some a) (Some b) None k q e = absurd cc
two_kind (Some a) (Some b) (Some y) k q e = ap (λ (r : CombRow). r.kind) (same_Some _ q e)

mux_kind : (w : Option ℕ) (k : CombKind) (q : CombRow) → option_and_then (λ w. Some (mux_of k w 0)) w ≡ Some q → (k ≡ q.kind) × (q.a_signed ≡ false)
mux_kind None k q e = absurd cc
mux_kind (Some w) k q e = (ap (λ (r : CombRow). r.kind) (same_Some (mux_of k w 0) q e), sym (ap (λ (r : CombRow). r.a_signed) (same_Some (mux_of k w 0) q e)))

pmux_kind : (w s : Option ℕ) (k : CombKind) (q : CombRow) → option_and_then (λ w. option_and_then (λ s. Some (mux_of k w s)) s) w ≡ Some q → (k ≡ q.kind) × (q.a_signed ≡ false)
pmux_kind None s k q e = absurd cc
pmux_kind (Some w) None k q e = absurd cc
pmux_kind (Some w) (Some s) k q e = (ap (λ (r : CombRow). r.kind) (same_Some (mux_of k w s) q e), sym (ap (λ (r : CombRow). r.a_signed) (same_Some (mux_of k w s) q e)))

by_operands : (o : Operands) (k : CombKind) (params : List Attr) (q : CombRow) → row_by o k params ≡ Some q → (k ≡ q.kind) × Unsigned o q.a_signed
unfolding one_row two_row mux_row pmux_row
by_operands One k params q e = (one_kind (a_at params) (y_at params) k q e, tt)
by_operands Alike k params q e = (two_kind (a_at params) (b_at params) (y_at params) k q e, tt)
by_operands Free k params q e = (two_kind (a_at params) (b_at params) (y_at params) k q e, tt)
by_operands Shift k params q e = (two_kind (a_at params) (b_at params) (y_at params) k q e, tt)
by_operands Mux k params q e = mux_kind (number_at params (codes "\\WIDTH")) k q e
by_operands Pmux k params q e = pmux_kind (number_at params (codes "\\WIDTH")) (number_at params (codes "\\S_WIDTH")) k q e

pub comb_known : (k : CombKind) (params : List Attr) (q : CombRow) → comb_row k params ≡ Some q → Unsigned (operands q.kind) q.a_signed
comb_known k params q e = let h = by_operands (operands k) k params q e in subst (λ (j : CombKind). Unsigned (operands j) q.a_signed) h.0 h.1

-- ---- registers

-- the level of a pin that the kind lacks is false
pub record RegKnown (q : RegRow) : Type 0 where
  pub no_en : has_enable q.kind ≡ false → q.controls.en_high ≡ false
  pub no_arst : has_arst q.kind ≡ false → q.controls.arst_high ≡ false
  pub no_srst : has_srst q.kind ≡ false → q.controls.srst_high ≡ false

controls_made : (w : Option ℕ) (r e a s : Option Bool) (c : Controls)
    → option_and_then (λ w. option_and_then (λ r. option_and_then (λ e. option_and_then (λ a. option_and_then (λ s. Some (record { width = w; rising = r; en_high = e; arst_high = a; srst_high = s })) s) a) e) r) w ≡ Some c
    → (e ≡ Some c.en_high) × (a ≡ Some c.arst_high) × (s ≡ Some c.srst_high)
controls_made None r e a s c h = absurd cc
controls_made (Some w) None e a s c h = absurd cc
controls_made (Some w) (Some r) None a s c h = absurd cc
controls_made (Some w) (Some r) (Some e) None s c h = absurd cc
controls_made (Some w) (Some r) (Some e) (Some a) None c h = absurd cc
controls_made (Some w) (Some r) (Some e) (Some a) (Some s) c h =
    let same = same_Some (record { width = w; rising = r; en_high = e; arst_high = a; srst_high = s }) c h in
    (ap (λ (d : Controls). Some d.en_high) same, ap (λ (d : Controls). Some d.arst_high) same, ap (λ (d : Controls). Some d.srst_high) same)

reg_made : (c : Option Controls) (a s : Option (List Tri)) (k : FfKind) (q : RegRow)
    → option_and_then (λ c. option_and_then (λ a. option_and_then (λ s. Some (record { kind = k; controls = c; arst_value = a; srst_value = s })) s) a) c ≡ Some q
    → (k ≡ q.kind) × (c ≡ Some q.controls)
reg_made None a s k q e = absurd cc
reg_made (Some c) None s k q e = absurd cc
reg_made (Some c) (Some a) None k q e = absurd cc
reg_made (Some c) (Some a) (Some s) k q e =
    let same = same_Some (record { kind = k; controls = c; arst_value = a; srst_value = s }) q e in
    (ap (λ (r : RegRow). r.kind) same, ap (λ (r : RegRow). Some r.controls) same)

lacks : (has high : Bool) (params : List Attr) (name : List ℕ) → polarity_if has params name ≡ Some high → has ≡ false → high ≡ false
lacks true high params name e h = absurd cc
lacks false high params name e h = sym (same_Some false high e)

pub reg_known : (k : FfKind) (params : List Attr) (q : RegRow) → reg_row k params ≡ Some q → RegKnown q
unfolding reg_row controls
reg_known k params q e =
    let made = reg_made (controls k params) (bits_if (has_arst k) params (codes "\\ARST_VALUE")) (bits_if (has_srst k) params (codes "\\SRST_VALUE")) k q e in
    let levels = controls_made (number_at params (codes "\\WIDTH")) _ (polarity_if (has_enable k) params (codes "\\EN_POLARITY")) (polarity_if (has_arst k) params (codes "\\ARST_POLARITY")) (polarity_if (has_srst k) params (codes "\\SRST_POLARITY")) q.controls made.1 in
    record {
      no_en = λ h. lacks (has_enable k) q.controls.en_high params (codes "\\EN_POLARITY") levels.0 (ap has_enable made.0 ∙ h);
      no_arst = λ h. lacks (has_arst k) q.controls.arst_high params (codes "\\ARST_POLARITY") levels.1 (ap has_arst made.0 ∙ h);
      no_srst = λ h. lacks (has_srst k) q.controls.srst_high params (codes "\\SRST_POLARITY") levels.2 (ap has_srst made.0 ∙ h);
    }

-- ---- memories

few_case : (t : Bool) (v : ℕ) → (t ≡ true → v < 2 ^ 32) → or_zero (if t then Some v else None) < 2 ^ 32
few_case true v f = f refl
few_case false v f = omega arith

and_second : (a b : Bool) → (a && b) ≡ true → b ≡ true
and_second true b e = e
and_second false b e = absurd cc

below : (a b : ℕ) → nat_lt a b ≡ true → a < b
below a b e = grind (arith, nat_tests)

bits_few : (bits : List Tri) → or_zero (number_of_bits bits) < 2 ^ 32
unfolding number_of_bits
bits_few bits = few_case (list_all is_known bits && nat_lt (value_of bits) (2 ^ 32)) (value_of bits) (λ e. below (value_of bits) (2 ^ 32) (and_second (list_all is_known bits) _ e))

attr_few : (t : Bool) (bits : List Tri) → or_zero (if t then None else number_of_bits bits) < 2 ^ 32
attr_few true bits = omega arith
attr_few false bits = bits_few bits

named_few : (o : Option Attr) → or_zero (option_and_then attr_number o) < 2 ^ 32
named_few None = omega arith
named_few (Some a) = attr_few a.is_text a.bits

number_few : (params : List Attr) (name : List ℕ) → number params name < 2 ^ 32
number_few params name = named_few (named params name)

-- numbers of 32 bits count the ports
abbrev pub PortsFew : MemRow → Type 0
PortsFew (memory.Whole q) = (q.reads < 2 ^ 32) × (q.writes < 2 ^ 32)
PortsFew (memory.Read q) = Unit {0}
PortsFew (memory.OldRead q) = Unit {0}
PortsFew (memory.Write q) = Unit {0}
PortsFew (memory.Init q) = Unit {0}

fields_few : (params : List Attr) → PortsFew (memory.Whole (whole_fields params))
unfolding whole_fields
fields_few params = (number_few params (codes "\\RD_PORTS"), number_few params (codes "\\WR_PORTS"))

whole_case : (t : Bool) (params : List Attr) (q : WholeRow) → (if t then Some (whole_fields params) else None) ≡ Some q → PortsFew (memory.Whole q)
whole_case true params q e = subst (λ (r : WholeRow). PortsFew (memory.Whole r)) (same_Some (whole_fields params) q e) (fields_few params)
whole_case false params q e = absurd cc

pub whole_few : (params : List Attr) (q : WholeRow) → whole_row params ≡ Some q → PortsFew (memory.Whole q)
whole_few params q e = whole_case (has_all params && has_groups params) params q e
