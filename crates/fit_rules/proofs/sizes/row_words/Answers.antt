use Rattle.std.proofs.Common.{◌*◌, ◌≤◌, arith}
use Rattle.fit_rules.proofs.Bounds.{power_product_few}
use Rattle.fit_rules.proofs.sizes.row_words.Goals as goal

pub overflow_mul-result : goal.overflow_mul-result
overflow_mul-result c =
    let few : c.power.result * c.power-2.result ≤ 67108864 =
    power_product_few c.power.result c.power-2.result c.saturating_sub.result c.args.spot.fold c.power.ensures c.power-2.ensures
    (omega (arith, c.saturating_sub.ensures, c.requires.limits.sized.abits)) c.requires.spot.fold in
    omega (arith, few)
