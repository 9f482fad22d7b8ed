use Rattle.ram_emit.proofs.Ordered.{placed_is_ordered}
use Rattle.ram_emit.proofs.laws.placed_is_ordered.Goals as goal

pub returns : goal.returns
returns c = placed_is_ordered
