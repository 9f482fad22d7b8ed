use Rattle.net_same.proofs.Following.{same_designs_live}
use Rattle.net_same.proofs.laws.same_designs_live.Goals as goal

pub returns : goal.returns
returns c = same_designs_live
