use Rattle.net_core.proofs.Ordering.{cycle_has_no_order}
use Rattle.net_core.proofs.laws.cycle_has_no_order.Goals as goal

pub returns : goal.returns
returns c = cycle_has_no_order
