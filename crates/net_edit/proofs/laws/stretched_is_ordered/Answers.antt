use Rattle.net_edit.proofs.Dropping.{stretched_is_ordered}
use Rattle.net_edit.proofs.laws.stretched_is_ordered.Goals as goal

pub returns : goal.returns
returns c = stretched_is_ordered
