use Rattle.map_flow.proofs.Plans.{can_plan}
use Rattle.map_flow.proofs.planning.plans_for.Goals as goal

pub plans_of-requires : goal.plans_of-requires
plans_of-requires c = can_plan c.args.library.now c.args.design.now c.requires.limits c.requires.sound

pub room_fault-requires-clause-within : goal.room_fault-requires-clause-within
room_fault-requires-clause-within c = can_plan c.args.library.now c.args.design.now c.requires.limits c.requires.sound
