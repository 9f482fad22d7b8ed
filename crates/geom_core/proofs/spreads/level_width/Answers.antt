use Rattle.std.proofs.Common.{arith}
use Rattle.std.proofs.lemmas.Grind.{common_steps}
use Rattle.net_core.proofs.Numbers.{width_at_is}
use Rattle.geom_core.proofs.spreads.level_width.Goals as goal

pub returns : goal.returns
returns c = rw width_at_is (grind (arith, common_steps))
