use Rattle.net_gather.proofs.Few as lemmas
use Rattle.net_gather.proofs.laws.places_few.Goals as goal

pub returns : goal.returns
returns c = lemmas.places_few
