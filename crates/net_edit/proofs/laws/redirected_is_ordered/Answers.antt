use Rattle.net_edit.proofs.RedirectedOrder.{redirected_is_ordered}
use Rattle.net_edit.proofs.laws.redirected_is_ordered.Goals as goal

pub returns : goal.returns
returns c = redirected_is_ordered
