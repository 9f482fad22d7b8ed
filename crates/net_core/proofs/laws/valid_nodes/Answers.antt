use Rattle.net_core.proofs.Counting.{valid_nodes}
use Rattle.net_core.proofs.laws.valid_nodes.Goals as goal

pub returns : goal.returns
returns c = valid_nodes
