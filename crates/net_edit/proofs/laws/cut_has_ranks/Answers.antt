use Rattle.net_edit.proofs.Adding.{cut_has_ranks}
use Rattle.net_edit.proofs.laws.cut_has_ranks.Goals as goal

pub returns : goal.returns
returns c = cut_has_ranks
