use Rattle.net_core.proofs.Refining.{refinements_compose}
use Rattle.net_core.proofs.laws.refinements_compose.Goals as goal

pub returns : goal.returns
returns c = refinements_compose
