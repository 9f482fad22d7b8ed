-- Cells that are kept for the signs of their operands.
use Rattle.std.proofs.Common.{◌≡◌, ℕ, Bool, true, false, not, ◌||◌, cond, List, Option, None, Some, refl, ap, ◌∙◌, sym}
use Rattle.std.specs.Prelude.{nat_eq, codes, option_and_then, if◌then◌else◌}
use Rattle.std.specs.List.{list_any}
use Rattle.std.proofs.lemmas.Option.{same_Some}
use Rattle.net_core.specs.declared.cells.CombKind.{CombKind}
use Rattle.net_core.specs.declared.cells.CombKind.TheVariants as comb
use Rattle.net_core.specs.declared.mems.Attr.{Attr}
use Rattle.net_core.specs.Logic.{xor}
use Rattle.net_core.specs.Valid.{is_one_digit, flag, flag_of, is_carried_for_signs}
use Rattle.cell_table.specs.Names.{comb_type}
use Rattle.cell_consts.specs.Params.{named, flag_of_found, flag_at, number_at}
use Rattle.cell_rows.specs.declared.operands.Operands.{Operands}
use Rattle.cell_rows.specs.declared.operands.Operands.TheVariants.{One, Alike, Free, Shift, Mux, Pmux}
use Rattle.cell_rows.specs.declared.comb.CombRow.{CombRow}
use Rattle.cell_rows.specs.Operands.{operands}
use Rattle.cell_rows.specs.Rows.{a_at, b_at, y_at, one_row, two_row, mux_row, pmux_row, mux_of, row_by, carried_by}
use Rattle.cell_rows.specs.Laws.{KeptForSigns}

-- ---- flags

in_attr : (text any f : Bool) → (if text then None else Some any) ≡ Some f → any ≡ f
in_attr true any f e = absurd (cc)
in_attr false any f e = same_Some _ _ e

of_found : (a : Option Attr) (f : Bool) → flag_of_found a ≡ Some f → flag_of a ≡ f
of_found None f e = absurd (cc)
of_found (Some a) f e = in_attr a.is_text (list_any is_one_digit a.bits) f e

-- a flag of the rows is the flag by which a valid design tells such cells
pub flag_is : (params : List Attr) (name : List ℕ) (f : Bool) → flag_at params name ≡ Some f → flag params name ≡ f
flag_is params name f e = of_found (named params name) f e

-- ---- the rows have the signs of their parameters

differ : (a b : Bool) → (not (nat_eq (cond a 1 0) (cond b 1 0)) || false) ≡ xor a b
differ true true = refl
differ true false = refl
differ false true = refl
differ false false = refl

-- by the flags
signs_by : (k : CombKind) (params : List Attr) → is_carried_for_signs (comb_type k) params ≡ carried_by (operands k) (flag params (codes "\\A_SIGNED")) (flag params (codes "\\B_SIGNED"))
signs_by comb.Not params = refl
signs_by comb.And params = differ _ _
signs_by comb.Or params = differ _ _
signs_by comb.Xor params = differ _ _
signs_by comb.Xnor params = differ _ _
signs_by comb.ReduceAnd params = refl
signs_by comb.ReduceOr params = refl
signs_by comb.ReduceBool params = refl
signs_by comb.ReduceXor params = refl
signs_by comb.ReduceXnor params = refl
signs_by comb.LogicNot params = refl
signs_by comb.LogicAnd params = refl
signs_by comb.LogicOr params = refl
signs_by comb.Eq params = differ _ _
signs_by comb.Ne params = differ _ _
signs_by comb.Lt params = differ _ _
signs_by comb.Le params = differ _ _
signs_by comb.Gt params = differ _ _
signs_by comb.Ge params = differ _ _
signs_by comb.Add params = differ _ _
signs_by comb.Sub params = differ _ _
signs_by comb.Shl params = refl
signs_by comb.Shr params = refl
signs_by comb.Mux params = refl
signs_by comb.Pmux params = refl

-- what a row keeps of two operands
record Kept (k : CombKind) (row : CombRow) (a b : Option (Bool × ℕ)) : Type 0 where
  kind : row.kind ≡ k
  a_is : a ≡ Some (row.a_signed, row.a_width)
  b_is : b ≡ Some (row.b_signed, row.b_width)

two_keeps : (k : CombKind) (row : CombRow) (a b : Option (Bool × ℕ)) (y : Option ℕ)
    → option_and_then {T = Bool × ℕ} (λ p. option_and_then {T = Bool × ℕ} (λ q. option_and_then {T = ℕ} (λ n. Some (record { kind = k; a_signed = p.0; b_signed = q.0; a_width = p.1; b_width = q.1; s_width = 0; y_width = n })) y) b) a ≡ Some row
    → Kept k row a b
two_keeps k row None b y e = absurd (cc)
two_keeps k row (Some p) None y e = absurd (cc)
two_keeps k row (Some p) (Some q) None e = absurd (cc)
two_keeps k row (Some p) (Some q) (Some n) e =
    let s = same_Some _ _ e in
    record { kind = sym (ap (λ (r : CombRow). r.kind) s); a_is = ap (λ (r : CombRow). Some (r.a_signed, r.a_width)) s; b_is = ap (λ (r : CombRow). Some (r.b_signed, r.b_width)) s }

one_keeps : (k : CombKind) (row : CombRow) (a : Option (Bool × ℕ)) (y : Option ℕ)
    → option_and_then {T = Bool × ℕ} (λ p. option_and_then {T = ℕ} (λ n. Some (record { kind = k; a_signed = p.0; b_signed = false; a_width = p.1; b_width = 0; s_width = 0; y_width = n })) y) a ≡ Some row
    → row.kind ≡ k
one_keeps k row None y e = absurd (cc)
one_keeps k row (Some p) None e = absurd (cc)
one_keeps k row (Some p) (Some n) e = sym (ap (λ (r : CombRow). r.kind) (same_Some _ _ e))

mux_keeps : (k : CombKind) (row : CombRow) (w : Option ℕ) → option_and_then {T = ℕ} (λ n. Some (mux_of k n 0)) w ≡ Some row → row.kind ≡ k
mux_keeps k row None e = absurd (cc)
mux_keeps k row (Some n) e = sym (ap (λ (r : CombRow). r.kind) (same_Some _ _ e))

pmux_keeps : (k : CombKind) (row : CombRow) (w s : Option ℕ) → option_and_then {T = ℕ} (λ n. option_and_then {T = ℕ} (λ m. Some (mux_of k n m)) s) w ≡ Some row → row.kind ≡ k
pmux_keeps k row None s e = absurd (cc)
pmux_keeps k row (Some n) None e = absurd (cc)
pmux_keeps k row (Some n) (Some m) e = sym (ap (λ (r : CombRow). r.kind) (same_Some _ _ e))

sign_kept : (f : Option Bool) (n : Option ℕ) (s : Bool) (w : ℕ) → option_and_then {T = Bool} {U = Bool × ℕ} (λ t. option_and_then {T = ℕ} {U = Bool × ℕ} (λ m. Some (t, m)) n) f ≡ Some (s, w) → f ≡ Some s
sign_kept None n s w e = absurd (cc)
sign_kept (Some t) None s w e = absurd (cc)
sign_kept (Some t) (Some m) s w e = ap (λ (p : Bool × ℕ). Some p.0) (same_Some _ _ e)

-- both ways of telling the signs agree
record Agrees (o : Operands) (k : CombKind) (params : List Attr) (row : CombRow) : Type 0 where
  kind : row.kind ≡ k
  signs : carried_by o (flag params (codes "\\A_SIGNED")) (flag params (codes "\\B_SIGNED")) ≡ carried_by o row.a_signed row.b_signed

two_agrees : (o : Operands) (k : CombKind) (params : List Attr) (row : CombRow) → two_row k params ≡ Some row → Agrees o k params row
unfolding two_row
two_agrees o k params row e =
    let kept = two_keeps k row (a_at params) (b_at params) (y_at params) e in
    let a : flag params (codes "\\A_SIGNED") ≡ row.a_signed = flag_is params _ _ (sign_kept (flag_at params (codes "\\A_SIGNED")) (number_at params (codes "\\A_WIDTH")) row.a_signed row.a_width kept.a_is) in
    let b : flag params (codes "\\B_SIGNED") ≡ row.b_signed = flag_is params _ _ (sign_kept (flag_at params (codes "\\B_SIGNED")) (number_at params (codes "\\B_WIDTH")) row.b_signed row.b_width kept.b_is) in
    record { kind = kept.kind; signs = λ i. carried_by o (a i) (b i) }

agrees : (o : Operands) (k : CombKind) (params : List Attr) (row : CombRow) → row_by o k params ≡ Some row → Agrees o k params row
unfolding one_row mux_row pmux_row
agrees One k params row e = record { kind = one_keeps k row (a_at params) (y_at params) e; signs = refl }
agrees Alike k params row e = two_agrees Alike k params row e
agrees Free k params row e = two_agrees Free k params row e
agrees Shift k params row e = two_agrees Shift k params row e
agrees Mux k params row e = record { kind = mux_keeps k row (number_at params (codes "\\WIDTH")) e; signs = refl }
agrees Pmux k params row e = record { kind = pmux_keeps k row (number_at params (codes "\\WIDTH")) (number_at params (codes "\\S_WIDTH")) e; signs = refl }

pub kept_for_signs : KeptForSigns
kept_for_signs k params row e =
    let a = agrees (operands k) k params row e in
    signs_by k params ∙ a.signs ∙ ap (λ x. carried_by (operands x) row.a_signed row.b_signed) (sym a.kind)
