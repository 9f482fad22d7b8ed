use Rattle.net_edit.proofs.Adding.{added_comb_is_within}
use Rattle.net_edit.proofs.laws.added_comb_is_within.Goals as goal

pub returns : goal.returns
returns c = added_comb_is_within
