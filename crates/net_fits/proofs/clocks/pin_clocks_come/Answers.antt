use Rattle.net_fits.proofs.ClockFacts as facts
use Rattle.net_fits.proofs.clocks.pin_clocks_come.Goals as goal

pub returns : goal.returns
returns c = facts.pin_clocks_come
