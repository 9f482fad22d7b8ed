use Rattle.net_fits.proofs.KeptFacts as facts
use Rattle.net_fits.proofs.cells.carried_fit.Goals as goal

pub returns : goal.returns
returns c = facts.carried_fit c.tables_fit.ensures c.pins_short.ensures
