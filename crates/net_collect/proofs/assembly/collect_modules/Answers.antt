use Rattle.std.proofs.Common.{◌≡◌, ◌∷◌, rules, sym, ap, ◌∙◌}
use Rattle.std.specs.Vec.Iter.{into_iter_items}
use Rattle.net_collect.specs.Collected.{faults_in}
use Rattle.net_collect.proofs.Refusals.{first_refuses}
use Rattle.net_collect.proofs.assembly.collect_modules.Goals as goal

pub returns-in-Err : goal.returns-in-Err
returns-in-Err c =
    let next : into_iter_items c.loop-module.module-iterator ≡ c.in-Some.module ∷ into_iter_items c.next.new.self = search rules in
    first_refuses c.in-Some.module (into_iter_items c.next.new.self) c.args.modules c.in-Err.fault c.in-Err.ensures (ap faults_in (sym next) ∙ c.loop-module.invariant.0)
