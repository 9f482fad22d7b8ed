use Rattle.net_fits.proofs.RamFacts as facts
use Rattle.net_fits.proofs.rams.ram_has_parts.Goals as goal

pub returns : goal.returns
returns c = facts.ram_has_parts
