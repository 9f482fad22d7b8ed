use Rattle.std.proofs.Common.{sym, ◌∙◌}
use Rattle.plain_plan.proofs.Gathered.{begin_by, first_module_fits, next_by}
use Rattle.plain_plan.proofs.planning.plans_of.Goals as goal

pub loop-rest-init : goal.loop-rest-init
loop-rest-init c = begin_by c.args.lib.now c.args.design.now c.from_vec-plans.result c.as_slice-rest.result.now (c.from_vec-plans.ensures ∙ c.new.ensures.items) c.as_slice-rest.ensures c.requires.fits

pub plans_in-requires-clause-memories : goal.plans_in-requires-clause-memories
plans_in-requires-clause-memories c = first_module_fits c.loop-rest.rest.now c.module-item.result c.in-len1-up.len_at_least c.module-item.is c.loop-rest.invariant.fits

pub loop-rest-preserved : goal.loop-rest-preserved
loop-rest-preserved c = next_by c.args.lib.now c.args.design.now c.loop-rest.plans c.in-Plans.more c.loop-rest.rest.now c.module-item.result c.in-len1-up.len_at_least c.module-item.is (sym c.in-Plans.is ∙ c.in_ok-more.ensures) c.loop-rest.invariant
