use Rattle.rewriting.proofs.Staying.{others_stay_known}
use Rattle.rewriting.proofs.laws.others_stay_known.Goals as goal

pub returns : goal.returns
returns c = others_stay_known
