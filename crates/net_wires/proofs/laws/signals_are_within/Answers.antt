use Rattle.net_wires.proofs.Reach.{signal_in}
use Rattle.net_wires.proofs.laws.signals_are_within.Goals as goal

pub returns : goal.returns
returns c = signal_in
