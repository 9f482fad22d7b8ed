use Rattle.net_edit.proofs.Adding.{added_comb_is_ordered}
use Rattle.net_edit.proofs.laws.added_comb_is_ordered.Goals as goal

pub returns : goal.returns
returns c = added_comb_is_ordered
