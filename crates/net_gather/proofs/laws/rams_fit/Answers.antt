use Rattle.net_gather.proofs.Shaped as lemmas
use Rattle.net_gather.proofs.laws.rams_fit.Goals as goal

pub returns : goal.returns
returns c = lemmas.rams_fit
