use Rattle.net_checks.proofs.Interfaces as interfaces
use Rattle.net_checks.proofs.laws.shown_inouts.Goals as goal

pub returns : goal.returns
returns c = interfaces.shown_inouts
