use Rattle.std.proofs.Common.{◌∙◌}
use Rattle.sim_settle.proofs.Marking.{taken_within, work_is}
use Rattle.sim_settle.proofs.schedules.work.Goals as goal

pub taken-requires : goal.taken-requires
taken-requires c = taken_within c.args.«module».now _ c.as_slice-2.result.now c.as_slice.result.now c.in_ok-order.ensures c.as_slice-2.ensures (c.as_slice.ensures.value ∙ c.in_ok-places.ensures)

pub returns : goal.returns
returns c = work_is c.args.«module».now _ c.as_slice-2.result.now c.as_slice.result.now c.in_ok-work.work c.in_ok-order.ensures c.as_slice-2.ensures (c.as_slice.ensures.value ∙ c.in_ok-places.ensures) c.in_ok-work.ensures
