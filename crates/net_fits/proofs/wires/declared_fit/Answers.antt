use Rattle.net_fits.proofs.WireFacts as facts
use Rattle.net_fits.proofs.wires.declared_fit.Goals as goal

pub returns : goal.returns
returns c = facts.declared_fit
