use Rattle.net_same.proofs.Following.{same_has_ports}
use Rattle.net_same.proofs.laws.same_has_ports.Goals as goal

pub returns : goal.returns
returns c = same_has_ports
