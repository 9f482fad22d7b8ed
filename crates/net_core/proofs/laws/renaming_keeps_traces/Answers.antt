use Rattle.net_core.proofs.RenamedNets.{renaming_keeps_traces}
use Rattle.net_core.proofs.laws.renaming_keeps_traces.Goals as goal

pub returns : goal.returns
returns c = renaming_keeps_traces
