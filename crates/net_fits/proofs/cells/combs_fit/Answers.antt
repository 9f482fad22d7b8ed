use Rattle.net_fits.proofs.CombFacts as facts
use Rattle.net_fits.proofs.cells.combs_fit.Goals as goal

pub returns : goal.returns
returns c = facts.combs_fit c.tables_fit.ensures c.pins_short.ensures
