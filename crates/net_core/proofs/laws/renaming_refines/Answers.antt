use Rattle.net_core.proofs.RenamedFrame.{renaming_refines}
use Rattle.net_core.proofs.laws.renaming_refines.Goals as goal

pub returns : goal.returns
returns c = renaming_refines
