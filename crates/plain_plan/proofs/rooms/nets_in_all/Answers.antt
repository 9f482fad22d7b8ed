use Rattle.std.proofs.Common.{ap, ◌+◌}
use Rattle.plain_plan.proofs.Gathered.{first_fits}
use Rattle.plain_plan.proofs.Roomy.{none_summed, first_plain, one_summed}
use Rattle.plain_plan.proofs.rooms.nets_in_all.Goals as goal

pub loop-mems-init : goal.loop-mems-init
loop-mems-init c = none_summed c.args.lib.now c.args.module.now c.args.plans.now c.from-nets.result c.as_slice-mems.result.now c.from-nets.ensures c.as_slice-mems.ensures c.requires.memories c.requires.plain

pub room_of-requires-clause-memory : goal.room_of-requires-clause-memory
room_of-requires-clause-memory c = first_fits c.loop-mems.mems.now c.mem-item.result c.in-len1-up.len_at_least c.mem-item.is c.loop-mems.invariant.fits

pub room_of-requires-clause-plain : goal.room_of-requires-clause-plain
room_of-requires-clause-plain c = first_plain c.args.lib.now c.loop-mems.mems.now c.mem-item.result c.loop-mems.rest.now c.plan-item.result c.in-len1-up.len_at_least c.mem-item.is c.in-len1-up-rest.len_at_least c.plan-item.is c.loop-mems.invariant.plain

pub loop-mems-preserved : goal.loop-mems-preserved
loop-mems-preserved c =
    one_summed c.args.lib.now c.args.module.now c.args.plans.now c.loop-mems.nets (c.loop-mems.nets + c.from-nets-in-len1-up.result) c.room_of.result c.loop-mems.mems.now c.mem-item.result c.loop-mems.rest.now c.plan-item.result
    c.in-len1-up.len_at_least c.mem-item.is c.in-len1-up-rest.len_at_least c.plan-item.is c.room_of.ensures.value c.room_of.ensures.few (ap (λ k. c.loop-mems.nets + k) c.from-nets-in-len1-up.ensures) c.loop-mems.invariant
