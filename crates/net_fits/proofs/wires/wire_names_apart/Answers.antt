use Rattle.net_fits.proofs.WireFacts as facts
use Rattle.net_fits.proofs.wires.wire_names_apart.Goals as goal

pub returns : goal.returns
returns c = facts.wire_names_apart
