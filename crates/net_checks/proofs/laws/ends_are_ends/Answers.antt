use Rattle.net_checks.proofs.Answering as answering
use Rattle.net_checks.proofs.laws.ends_are_ends.Goals as goal

pub returns : goal.returns
returns c = answering.ends_are_ends
