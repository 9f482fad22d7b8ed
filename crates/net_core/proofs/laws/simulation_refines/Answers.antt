use Rattle.net_core.proofs.Refining.{refines_of}
use Rattle.net_core.proofs.laws.simulation_refines.Goals as goal

pub returns : goal.returns
returns c = refines_of
