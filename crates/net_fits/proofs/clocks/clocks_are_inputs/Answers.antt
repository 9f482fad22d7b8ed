use Rattle.net_fits.proofs.ClockFacts as facts
use Rattle.net_fits.proofs.clocks.clocks_are_inputs.Goals as goal

pub returns : goal.returns
returns c = facts.clocks_are_inputs
