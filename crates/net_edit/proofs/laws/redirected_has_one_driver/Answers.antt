use Rattle.net_edit.proofs.RedirectedOrder.{redirected_has_one_driver}
use Rattle.net_edit.proofs.laws.redirected_has_one_driver.Goals as goal

pub returns : goal.returns
returns c = redirected_has_one_driver
