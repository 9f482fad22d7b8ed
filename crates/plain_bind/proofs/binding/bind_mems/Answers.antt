use Rattle.plain_plan.proofs.Gathered.{first_fits}
use Rattle.plain_bind.proofs.Bounding.{next_making}
use Rattle.plain_bind.proofs.binding.bind_mems.Goals as goal

pub bind_mem-requires-clause-memory : goal.bind_mem-requires-clause-memory
bind_mem-requires-clause-memory c = first_fits c.loop-mems.mems.now c.mem-item.result c.in-len1-up.len_at_least c.mem-item.is c.loop-mems.invariant.fits

pub loop-mems-preserved : goal.loop-mems-preserved
loop-mems-preserved c =
    next_making c.args.lib.now c.args.front.now c.args.made c.args.mems.now c.args.plans.now c.loop-mems.made c.in_ok-made.made c.loop-mems.mems.now c.mem-item.result c.loop-mems.plans.now c.plan-item.result c.in-len1-up.len_at_least c.mem-item.is
    c.in-len1-up-plans.len_at_least c.plan-item.is c.in_ok-made.ensures c.loop-mems.invariant
