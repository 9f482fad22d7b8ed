use Rattle.net_gates.proofs.Growing.{grown_simulates}
use Rattle.net_gates.proofs.laws.grown_simulates.Goals as goal

pub returns : goal.returns
returns c = grown_simulates
