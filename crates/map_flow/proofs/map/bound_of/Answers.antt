use Rattle.std.proofs.Common.{rules}
use Rattle.map_flow.proofs.Mapping.{can_bind}
use Rattle.map_flow.proofs.map.bound_of.Goals as goal

pub bind_plain-requires : goal.bind_plain-requires
bind_plain-requires c = rw c.as_slice.ensures (can_bind c.planned_are_plain.ensures c.args.library.now c.args.design c.args.plans.now c.requires.limits c.requires.sound c.requires.plans)

pub returns-clause-sound : goal.returns-clause-sound
returns-clause-sound c = c.in_ok-design_is_sound.ensures.says (search rules)
