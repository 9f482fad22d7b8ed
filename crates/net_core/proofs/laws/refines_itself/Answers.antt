use Rattle.net_core.proofs.Refining.{refines_itself}
use Rattle.net_core.proofs.laws.refines_itself.Goals as goal

pub returns : goal.returns
returns c = refines_itself
