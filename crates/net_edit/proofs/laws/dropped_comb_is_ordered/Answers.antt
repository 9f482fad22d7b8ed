use Rattle.net_edit.proofs.Dropping.{dropped_comb_is_ordered}
use Rattle.net_edit.proofs.laws.dropped_comb_is_ordered.Goals as goal

pub returns : goal.returns
returns c = dropped_comb_is_ordered
