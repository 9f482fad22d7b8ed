use Rattle.net_core.proofs.Refining.{always_kept}
use Rattle.net_core.proofs.laws.keeps_always.Goals as goal

pub returns : goal.returns
returns c = always_kept
