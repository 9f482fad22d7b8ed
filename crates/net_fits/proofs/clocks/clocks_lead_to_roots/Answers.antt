use Rattle.net_fits.proofs.ClockFacts as facts
use Rattle.net_fits.proofs.clocks.clocks_lead_to_roots.Goals as goal

pub returns : goal.returns
returns c = facts.clocks_lead_to_roots
