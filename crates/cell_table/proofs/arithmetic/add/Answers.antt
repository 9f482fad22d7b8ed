use Rattle.std.proofs.Common.{◌≡◌, cond, not, length, sym, ap, refl, ◌∙◌, arith}
use mathlib.Core.Bool.{beq}
use Rattle.cell_table.proofs.Numbers.{sum_start, sum_more}
use Rattle.cell_table.proofs.arithmetic.add.Goals as goal
use Rattle.cell_table.proofs.arithmetic.add.Goals.{then-x-y, else-x-y}

pub loop-place-init : goal.loop-place-init
loop-place-init c = (λ k h. absurd (omega arith), sum_start c.args.signed c.args.subtract c.args.a.now c.args.b.now (length c.args.out.now))

pub loop-place-preserved : goal.loop-place-preserved
loop-place-preserved c =
    let x = c.extended-x.result in
    let y = c.extended.result in
    let z = not (beq y c.args.subtract) in
    let next : c.if-x-y.carry ≡ cond (beq x z) x c.loop-place.carry = elim c.if-x-y.branch [ then-x-y w ↦ w.carry-is ∙ ap (λ b. cond b x c.loop-place.carry) (sym w.if-x-y.true) | else-x-y w ↦ w.carry-is ∙ ap (λ b. cond b x c.loop-place.carry) (sym w.if-x-y.false) ] in
    sum_more c.args.signed c.args.subtract x y c.loop-place.carry c.if-x-y.carry _ c.args.a.now c.args.b.now c.loop-place.out c.loop-place.place (omega arith) c.extended-x.ensures c.extended.ensures refl next c.loop-place.invariant.0 c.loop-place.invariant.1
