use Rattle.net_gates.proofs.Composing.{adds_as}
use Rattle.net_gates.proofs.laws.adds_as.Goals as goal

pub returns : goal.returns
returns c = adds_as
