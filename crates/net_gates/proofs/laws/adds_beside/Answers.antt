use Rattle.net_gates.proofs.Composing.{adds_beside}
use Rattle.net_gates.proofs.laws.adds_beside.Goals as goal

pub returns : goal.returns
returns c = adds_beside
