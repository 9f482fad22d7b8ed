use Rattle.net_core.proofs.RenamedNets.{renaming_keeps_runs}
use Rattle.net_core.proofs.laws.renaming_keeps_runs.Goals as goal

pub returns : goal.returns
returns c = renaming_keeps_runs
