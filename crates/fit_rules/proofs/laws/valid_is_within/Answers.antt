use Rattle.fit_rules.proofs.Valid.{valid_is_within}
use Rattle.fit_rules.proofs.laws.valid_is_within.Goals as goal

pub returns : goal.returns
returns c = valid_is_within
