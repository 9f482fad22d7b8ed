use Rattle.net_wires.proofs.Spelling.{spelled}
use Rattle.net_wires.proofs.laws.signals_are_spelled.Goals as goal

pub returns : goal.returns
returns c = spelled
