use Rattle.std.proofs.Common.{refl}
use Rattle.net_wires.proofs.Tallying.{none_tally}
use Rattle.net_wires.proofs.driving.Drivers.none.Goals as goal

pub returns : goal.returns
returns c = none_tally c.args.count _ c.in_ok-zeros.ensures refl
