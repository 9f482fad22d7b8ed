use Rattle.net_gather.proofs.Fitting as fitting
use Rattle.net_gather.proofs.laws.tables_fit.Goals as goal

pub returns : goal.returns
returns c = fitting.tables_fit
