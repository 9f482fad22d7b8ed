use Rattle.net_core.proofs.Refining.{simulates_itself}
use Rattle.net_core.proofs.laws.simulates_itself.Goals as goal

pub returns : goal.returns
returns c = simulates_itself
