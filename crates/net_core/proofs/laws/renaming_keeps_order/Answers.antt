use Rattle.net_core.proofs.RenamedFrame.{renaming_keeps_order}
use Rattle.net_core.proofs.laws.renaming_keeps_order.Goals as goal

pub returns : goal.returns
returns c = renaming_keeps_order
