use Rattle.net_fits.proofs.WireFacts as facts
use Rattle.net_fits.proofs.wires.wires_fit.Goals as goal

pub returns : goal.returns
returns c = facts.wires_fit
