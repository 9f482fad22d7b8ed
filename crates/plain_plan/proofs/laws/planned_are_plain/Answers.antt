use Rattle.plain_plan.proofs.Gathered.{planned_are_plain}
use Rattle.plain_plan.proofs.laws.planned_are_plain.Goals as goal

pub returns : goal.returns
returns c = planned_are_plain
