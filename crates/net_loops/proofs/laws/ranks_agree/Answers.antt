use Rattle.net_loops.proofs.Linking.{ranks_agree}
use Rattle.net_loops.proofs.laws.ranks_agree.Goals as goal

pub returns : goal.returns
returns c = ranks_agree
