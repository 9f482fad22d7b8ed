use Rattle.net_edit.proofs.Adding.{added_reg_is_ordered}
use Rattle.net_edit.proofs.laws.added_reg_is_ordered.Goals as goal

pub returns : goal.returns
returns c = added_reg_is_ordered
