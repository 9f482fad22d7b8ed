use Rattle.std.proofs.Common.{rules}
use Rattle.map_flow.proofs.planning.design_of.Goals as goal

pub returns-clause-sound : goal.returns-clause-sound
returns-clause-sound c = c.in_ok-design_is_sound.ensures.says (search rules)
