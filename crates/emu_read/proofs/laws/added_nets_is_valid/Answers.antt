use Rattle.emu_read.proofs.Joined.{added_nets_is_valid}
use Rattle.emu_read.proofs.laws.added_nets_is_valid.Goals as goal

pub returns : goal.returns
returns c = added_nets_is_valid
