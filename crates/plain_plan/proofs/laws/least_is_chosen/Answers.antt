use Rattle.plain_plan.proofs.Walked.{least_is_chosen}
use Rattle.plain_plan.proofs.laws.least_is_chosen.Goals as goal

pub returns : goal.returns
returns c = least_is_chosen
