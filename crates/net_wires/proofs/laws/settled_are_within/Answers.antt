use Rattle.net_wires.proofs.Reach.{settled_in}
use Rattle.net_wires.proofs.laws.settled_are_within.Goals as goal

pub returns : goal.returns
returns c = settled_in
