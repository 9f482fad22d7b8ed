use Rattle.plain_bind.proofs.Marked.{marks_are_fewest}
use Rattle.plain_bind.proofs.laws.marks_are_fewest.Goals as goal

pub returns : goal.returns
returns c = marks_are_fewest
