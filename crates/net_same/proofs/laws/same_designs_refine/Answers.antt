use Rattle.net_same.proofs.Following.{same_designs_refine}
use Rattle.net_same.proofs.laws.same_designs_refine.Goals as goal

pub returns : goal.returns
returns c = same_designs_refine
