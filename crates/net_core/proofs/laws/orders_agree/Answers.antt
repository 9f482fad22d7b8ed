use Rattle.net_core.proofs.Ordering.{orders_agree}
use Rattle.net_core.proofs.laws.orders_agree.Goals as goal

pub returns : goal.returns
returns c = orders_agree
