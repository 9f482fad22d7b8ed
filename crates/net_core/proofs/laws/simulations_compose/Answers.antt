use Rattle.net_core.proofs.Refining.{simulates_trans}
use Rattle.net_core.proofs.laws.simulations_compose.Goals as goal

pub returns : goal.returns
returns c = simulates_trans
