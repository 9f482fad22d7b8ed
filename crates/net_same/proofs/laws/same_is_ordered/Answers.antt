use Rattle.net_same.proofs.Following.{same_is_ordered}
use Rattle.net_same.proofs.laws.same_is_ordered.Goals as goal

pub returns : goal.returns
returns c = same_is_ordered
