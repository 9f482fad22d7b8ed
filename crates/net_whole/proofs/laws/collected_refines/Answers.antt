use Rattle.net_whole.proofs.Gathering as gathering
use Rattle.net_whole.proofs.laws.collected_refines.Goals as goal

pub returns : goal.returns
returns c = gathering.gathers
