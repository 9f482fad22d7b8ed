use Rattle.net_gather.proofs.Within as within
use Rattle.net_gather.proofs.laws.places_in_order.Goals as goal

pub returns : goal.returns
returns c = within.places_in_order
