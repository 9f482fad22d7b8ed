use Rattle.net_wires.proofs.Reach.{all_there}
use Rattle.net_wires.proofs.laws.wires_are_there.Goals as goal

pub returns : goal.returns
returns c = all_there
