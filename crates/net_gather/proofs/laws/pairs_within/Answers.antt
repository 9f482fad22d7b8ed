use Rattle.net_gather.proofs.Few as lemmas
use Rattle.net_gather.proofs.laws.pairs_within.Goals as goal

pub returns : goal.returns
returns c = lemmas.pairs_within
