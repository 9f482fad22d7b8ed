use Rattle.net_wires.proofs.OneClock.{one_clock}
use Rattle.net_wires.proofs.laws.clock_is_one.Goals as goal

pub returns : goal.returns
returns c = one_clock
