use Rattle.net_wires.proofs.Solving.{solves}
use Rattle.net_wires.proofs.laws.resolved_solves.Goals as goal

pub returns : goal.returns
returns c = λ t bits count r. solves t r.ends bits count r.long r.leads r.numbered
