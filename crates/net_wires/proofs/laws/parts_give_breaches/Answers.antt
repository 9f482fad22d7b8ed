use Rattle.net_wires.specs.Parts.{start}
use Rattle.net_wires.proofs.Spelling.{signal_breaks}
use Rattle.net_wires.proofs.laws.parts_give_breaches.Goals as goal

pub returns : goal.returns
returns c = λ names s. signal_breaks names s start
