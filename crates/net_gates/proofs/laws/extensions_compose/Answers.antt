use Rattle.net_gates.proofs.Composing.{extensions_compose}
use Rattle.net_gates.proofs.laws.extensions_compose.Goals as goal

pub returns : goal.returns
returns c = extensions_compose
