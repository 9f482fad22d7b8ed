use Rattle.net_fits.proofs.TextFacts as facts
use Rattle.net_fits.proofs.texts.read_is_written.Goals as goal

pub returns : goal.returns
returns c = facts.read_is_written
