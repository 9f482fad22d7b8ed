use Rattle.net_edit.proofs.Dropping.{dropped_reg_is_ordered}
use Rattle.net_edit.proofs.laws.dropped_reg_is_ordered.Goals as goal

pub returns : goal.returns
returns c = dropped_reg_is_ordered
