use Rattle.std.proofs.Common.{rules, ◌≡◌, ◌++◌, ◌∷◌, []}
use Rattle.std.specs.Prelude.{Some}
use Rattle.plain_plan.specs.Planned.{plan_of}
use Rattle.plain_plan.proofs.Gathered.{begin_in, first_fits, next_in}
use Rattle.plain_plan.proofs.planning.plans_in.Goals as goal

pub loop-rest-init : goal.loop-rest-init
loop-rest-init c = begin_in c.args.lib.now c.args.module.now c.args.plans c.as_slice-rest.result.now c.as_slice-rest.ensures c.requires.memories

pub plan_of-requires-clause-memory : goal.plan_of-requires-clause-memory
plan_of-requires-clause-memory c = first_fits c.loop-rest.rest.now c.mem-item.result c.in-len1-up.len_at_least c.mem-item.is c.loop-rest.invariant.fits

pub loop-rest-preserved : goal.loop-rest-preserved
loop-rest-preserved c =
    let there : plan_of c.args.lib.now c.mem-item.result ≡ Some c.in-Some.plan = search rules in
    let put : c.push.new.self ≡ c.loop-rest.plans ++ c.in-Some.plan ∷ [] = search rules in
    next_in c.args.lib.now c.args.module.now c.args.plans c.loop-rest.plans c.push.new.self c.loop-rest.rest.now c.mem-item.result c.in-Some.plan c.in-len1-up.len_at_least c.mem-item.is there put c.loop-rest.invariant
