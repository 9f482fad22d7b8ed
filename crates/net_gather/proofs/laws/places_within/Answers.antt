use Rattle.net_gather.proofs.Within as within
use Rattle.net_gather.proofs.laws.places_within.Goals as goal

pub returns : goal.returns
returns c = within.places_within
