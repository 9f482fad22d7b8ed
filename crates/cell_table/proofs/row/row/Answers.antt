use Rattle.std.proofs.Common.{◌≡◌, ◌+◌, ◌-◌, ◌*◌, ◌^◌, ◌&&◌, false, length, min, ap, ◌∙◌, rules, arith}
use Rattle.std.specs.Prelude.{nat_le}
use Rattle.net_core.specs.Values.{bit_at, number_of}
use Rattle.net_core.specs.Logic.{extended}
use Rattle.cell_table.proofs.Rows.{bit_at_capped, selected_row, shift_up_capped, shifted_down}
use Rattle.cell_table.proofs.Numbers.{same_bool_is}
use Rattle.cell_table.proofs.row.row.Goals as goal

pub returns-in-Not : goal.returns-in-Not
returns-in-Not c = λ k h. let e = c.fill.ensures k h in search rules

pub returns-in-And : goal.returns-in-And
returns-in-And c = λ k h. let e = c.fill-in-And.ensures k h in search rules

pub returns-in-Or : goal.returns-in-Or
returns-in-Or c = λ k h. let e = c.fill-in-Or.ensures k h in search rules

pub returns-in-Xor : goal.returns-in-Xor
returns-in-Xor c = λ k h. let e = c.fill-in-Xor.ensures k h in search (rules, same_bool_is)

pub returns-in-Xnor : goal.returns-in-Xnor
returns-in-Xnor c = λ k h. let e = c.fill-in-Xnor.ensures k h in search (rules, same_bool_is)

pub returns-in-Shl : goal.returns-in-Shl
returns-in-Shl c = λ k h.
    let a = c.args.a.now in
    let n = number_of c.args.b.now in
    let e : bit_at c.shift_up.new.out k ≡ (nat_le n k && extended false a (k - n)) = c.shift_up.ensures k h ∙ shift_up_capped a n (2 ^ 64 - 1) c.number.result k c.number.ensures (omega arith) in
    search rules

pub returns-in-Shr : goal.returns-in-Shr
returns-in-Shr c = λ k h.
    let a = c.args.a.now in
    let n = number_of c.args.b.now in
    let start : c.min.result ≡ min n (length a) = omega arith in
    let e : bit_at c.copy_from.new.out k ≡ extended false a (k + n) = c.copy_from.ensures k h ∙ bit_at_capped a n c.min.result k start ∙ shifted_down a n k in
    search rules

pub returns-in-One : goal.returns-in-One
returns-in-One c = λ k h.
    let b = c.args.b.now in
    let at = c.in-One.place * length c.args.a.now in
    let product : c.saturating_mul.result ≡ min at (2 ^ 64 - 1) = c.saturating_mul.ensures ∙ ap (λ w. min (c.in-One.place * w) (2 ^ 64 - 1)) c.len-in-One.ensures in
    let start : c.min-in-One.result ≡ min at (length b) = omega arith in
    let e : bit_at c.copy_from-in-One.new.out k ≡ bit_at b (at + k) = c.copy_from-in-One.ensures k h ∙ bit_at_capped b at c.min-in-One.result k start in
    selected_row c.args.kind c.args.signed c.args.a.now b c.args.s.now _ c.in-One.place k _ _ c.in-Pmux.is c.in-One.ensures e
