use Rattle.std.proofs.Common.{length, ap, arith}
use Rattle.plain_plan.proofs.Gathered.{first_module_fits}
use Rattle.plain_plan.proofs.Roomy.{begin_over, module_plain, module_plans, next_over}
use Rattle.plain_plan.proofs.rooms.room_fault.Goals as goal

pub loop-modules-init : goal.loop-modules-init
loop-modules-init c = begin_over c.args.lib.now c.args.design.now c.args.plans.now c.as_slice-modules.result.now c.as_slice-modules.ensures c.requires.within.fits c.requires.plain

pub nets_in_all-nets-requires-clause-memories : goal.nets_in_all-nets-requires-clause-memories
nets_in_all-nets-requires-clause-memories c = first_module_fits c.loop-modules.modules.now c.module-item.result c.in-len1-up.len_at_least c.module-item.is c.loop-modules.invariant.fits

pub nets_in_all-nets-requires-clause-plain : goal.nets_in_all-nets-requires-clause-plain
nets_in_all-nets-requires-clause-plain c = module_plain c.args.lib.now c.loop-modules.modules.now c.module-item.result c.loop-modules.rest.now c.in-len1-up.len_at_least c.module-item.is c.loop-modules.invariant.plain

pub split_at-requires : goal.split_at-requires
split_at-requires c =
    let few = module_plans c.args.lib.now c.loop-modules.modules.now c.module-item.result c.loop-modules.rest.now c.in-len1-up.len_at_least c.module-item.is c.loop-modules.invariant.plain in
    let count = ap length c.as_slice.ensures in
    omega (arith, few, count)

pub loop-modules-preserved : goal.loop-modules-preserved
loop-modules-preserved c =
    next_over c.args.lib.now c.args.design.now c.args.plans.now c.loop-modules.modules.now c.module-item.result c.loop-modules.rest.now c.split_at.result.1.now c.nets_in_all-nets.result (length c.as_slice.result.now) c.in-len1-up.len_at_least
    c.module-item.is c.nets_in_all-nets.ensures c.if-nets-gt-MOST_NETS.false (ap length c.as_slice.ensures) c.split_at.ensures.back c.loop-modules.invariant
