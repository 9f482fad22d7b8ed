use Rattle.std.proofs.Common.{◌≡◌, ◌≤◌, ◌<◌, List, length, arith, subst, IfOk}
use Rattle.lib_core.specs.declared.library.Choice.{Choice}
use Rattle.lib_judge.proofs.Single.{one_choice}
use Rattle.lib_judge.proofs.variants.extended.Goals as goal

pub returns-in-len1 : goal.returns-in-len1
returns-in-len1 c =
    let some : 1 ≤ length c.args.axis.now = omega arith in
    let one : length c.args.axis.now < 2 = omega arith in
    subst (λ (xs : List (List Choice)). IfOk c.each_with.result (λ longer. longer.items ≡ xs)) (one_choice c.args.axis.now c.only-item.result c.args.rows.items some one c.only-item.is) c.each_with.ensures
