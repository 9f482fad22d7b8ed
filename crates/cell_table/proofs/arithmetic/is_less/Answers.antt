use Rattle.std.proofs.Common.{◌≡◌, ◌+◌, cond, not, ◌&&◌, sym, ap, ◌∙◌, arith}
use Rattle.std.specs.Prelude.{nat_eq}
use mathlib.Core.Bool.{beq}
use Rattle.net_core.specs.Logic.{is_less}
use Rattle.cell_table.proofs.Numbers.{order_bit, less_start, less_next, order_bit_is}
use Rattle.cell_table.proofs.arithmetic.is_less.Goals as goal
use Rattle.cell_table.proofs.arithmetic.is_less.Goals.{then-x-y, else-x-y}

pub loop-place-init : goal.loop-place-init
loop-place-init c = less_start c.args.signed c.args.a.now c.args.b.now c.max-width.result (omega arith)

pub loop-place-preserved : goal.loop-place-preserved
loop-place-preserved c =
    let turned = c.args.signed && nat_eq (c.loop-place.place + 1) c.max-width.result in
    let x = not (beq c.extended.result turned) in
    let y = not (beq c.extended-in-loop-place.result turned) in
    let step : c.if-x-y.less ≡ cond (beq x y) c.loop-place.less y = elim c.if-x-y.branch [ then-x-y w ↦ w.less-is ∙ ap (λ b. cond b c.loop-place.less y) (sym w.if-x-y.true) | else-x-y w ↦ w.less-is ∙ ap (λ b. cond b c.loop-place.less y) (sym w.if-x-y.false) ] in
    less_next (order_bit c.args.signed c.args.a.now c.max-width.result) (order_bit c.args.signed c.args.b.now c.max-width.result) x y c.loop-place.less c.if-x-y.less (is_less c.args.signed c.args.a.now c.args.b.now) c.max-width.result c.loop-place.place
    (omega arith) (order_bit_is c.args.signed _ c.args.a.now c.max-width.result c.loop-place.place c.extended.ensures) (order_bit_is c.args.signed _ c.args.b.now c.max-width.result c.loop-place.place c.extended-in-loop-place.ensures) step c.loop-place.invariant
