use Rattle.net_gather.proofs.Short as lemmas
use Rattle.net_gather.proofs.laws.pins_short.Goals as goal

pub returns : goal.returns
returns c = lemmas.pins_short
