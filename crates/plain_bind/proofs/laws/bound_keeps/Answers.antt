use Rattle.plain_bind.proofs.Cells.{bound_keeps}
use Rattle.plain_bind.proofs.laws.bound_keeps.Goals as goal

pub returns : goal.returns
returns c = bound_keeps
