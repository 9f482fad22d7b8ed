use Rattle.net_same.proofs.Following.{same_names}
use Rattle.net_same.proofs.laws.same_names.Goals as goal

pub returns : goal.returns
returns c = same_names
