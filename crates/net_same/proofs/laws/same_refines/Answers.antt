use Rattle.net_same.proofs.Following.{same_refines}
use Rattle.net_same.proofs.laws.same_refines.Goals as goal

pub returns : goal.returns
returns c = same_refines
