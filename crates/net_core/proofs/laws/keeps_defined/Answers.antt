use Rattle.net_core.proofs.Refining.{keeps_defined}
use Rattle.net_core.proofs.laws.keeps_defined.Goals as goal

pub returns : goal.returns
returns c = keeps_defined
