use Rattle.net_gather.proofs.Settling.{cells_settled}
use Rattle.net_gather.proofs.laws.bits_settled.Goals as goal

pub returns : goal.returns
returns c = cells_settled
