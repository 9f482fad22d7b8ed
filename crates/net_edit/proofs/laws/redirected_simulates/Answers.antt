use Rattle.net_edit.proofs.Redirecting.{redirected_simulates}
use Rattle.net_edit.proofs.laws.redirected_simulates.Goals as goal

pub returns : goal.returns
returns c = redirected_simulates
