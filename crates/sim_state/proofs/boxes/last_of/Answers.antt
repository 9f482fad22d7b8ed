use Rattle.std.proofs.Common.{arith}
use Rattle.net_core.proofs.Numbers.{width_at_is}
use Rattle.std.proofs.lemmas.Grind.{common_steps}
use Rattle.sim_state.proofs.boxes.last_of.Goals as goal

pub returns : goal.returns
returns c = rw width_at_is (grind (arith, common_steps))
