use Rattle.std.proofs.Common.{◌<◌, ◌∙◌, sym, arith, ◌^◌}
use Rattle.std.proofs.lemmas.Bool.{ne_eqb}
use Rattle.net_core.proofs.Numbers.{no_multiple, no_high_multiple}
use Rattle.net_core.proofs.shapes.is_product.Goals as goal

pub returns-else-number-factor-eq0 : goal.returns-else-number-factor-eq0
returns-else-number-factor-eq0 c =
    ne_eqb _ _ c.if-number-factor-eq0.false ∙ sym (no_multiple _ _ _ c.if-number-factor-eq0.false)

pub returns-else-power-lt64 : goal.returns-else-power-lt64
returns-else-power-lt64 c =
    let small : c.args.number < 2 ^ 64 = omega (arith, c.ranges.number) in
    sym (no_high_multiple c.args.number c.args.power c.args.factor small (omega arith) (omega arith))
