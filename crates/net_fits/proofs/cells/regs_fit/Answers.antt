use Rattle.net_fits.proofs.RegFacts as facts
use Rattle.net_fits.proofs.cells.regs_fit.Goals as goal

pub returns : goal.returns
returns c = facts.regs_fit c.tables_fit.ensures c.pins_short.ensures
