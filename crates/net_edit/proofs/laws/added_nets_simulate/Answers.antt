use Rattle.net_edit.proofs.Adding.{added_nets_simulate}
use Rattle.net_edit.proofs.laws.added_nets_simulate.Goals as goal

pub returns : goal.returns
returns c = added_nets_simulate
