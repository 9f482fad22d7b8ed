use Rattle.net_same.proofs.Following.{same_is_live}
use Rattle.net_same.proofs.laws.same_is_live.Goals as goal

pub returns : goal.returns
returns c = same_is_live
