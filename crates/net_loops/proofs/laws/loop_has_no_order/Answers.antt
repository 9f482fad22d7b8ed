use Rattle.net_loops.proofs.Linking.{loop_no_order}
use Rattle.net_loops.proofs.laws.loop_has_no_order.Goals as goal

pub returns : goal.returns
returns c = loop_no_order
