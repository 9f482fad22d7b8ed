use Rattle.net_checks.proofs.Answering as answering
use Rattle.net_checks.proofs.laws.answers_are_there.Goals as goal

pub returns : goal.returns
returns c = λ items g s. (answering.clocks_there items g s, answering.rings_there items g s)
