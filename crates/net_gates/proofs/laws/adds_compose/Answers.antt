use Rattle.net_gates.proofs.Composing.{adds_compose}
use Rattle.net_gates.proofs.laws.adds_compose.Goals as goal

pub returns : goal.returns
returns c = adds_compose
