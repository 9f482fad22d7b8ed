use Rattle.net_edit.proofs.Adding.{added_reg_has_one_driver}
use Rattle.net_edit.proofs.laws.added_reg_has_one_driver.Goals as goal

pub returns : goal.returns
returns c = added_reg_has_one_driver
