use Rattle.net_edit.proofs.Dropping.{spliced_is_ordered}
use Rattle.net_edit.proofs.laws.spliced_is_ordered.Goals as goal

pub returns : goal.returns
returns c = spliced_is_ordered
