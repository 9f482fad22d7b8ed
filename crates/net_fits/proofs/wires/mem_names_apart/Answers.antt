use Rattle.net_fits.proofs.WireFacts as facts
use Rattle.net_fits.proofs.wires.mem_names_apart.Goals as goal

pub returns : goal.returns
returns c = facts.mem_names_apart
