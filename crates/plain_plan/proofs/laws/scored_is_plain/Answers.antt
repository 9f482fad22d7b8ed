use Rattle.plain_plan.proofs.Scored.{scored_is_plain}
use Rattle.plain_plan.proofs.laws.scored_is_plain.Goals as goal

pub returns : goal.returns
returns c = scored_is_plain
