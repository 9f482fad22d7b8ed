use Rattle.net_fits.proofs.KeptFacts as facts
use Rattle.net_fits.proofs.cells.parts_fit.Goals as goal

pub returns : goal.returns
returns c = facts.parts_fit c.tables_fit.ensures c.pins_short.ensures
