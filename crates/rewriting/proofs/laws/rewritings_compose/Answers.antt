use Rattle.rewriting.proofs.Composing.{rewritings_compose}
use Rattle.rewriting.proofs.laws.rewritings_compose.Goals as goal

pub returns : goal.returns
returns c = rewritings_compose c.simulations_compose.ensures
