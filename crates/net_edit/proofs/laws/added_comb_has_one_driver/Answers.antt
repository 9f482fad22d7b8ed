use Rattle.net_edit.proofs.Adding.{added_comb_has_one_driver}
use Rattle.net_edit.proofs.laws.added_comb_has_one_driver.Goals as goal

pub returns : goal.returns
returns c = added_comb_has_one_driver
