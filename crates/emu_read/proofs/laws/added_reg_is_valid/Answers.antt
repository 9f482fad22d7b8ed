use Rattle.emu_read.proofs.Joined.{added_reg_is_valid}
use Rattle.emu_read.proofs.laws.added_reg_is_valid.Goals as goal

pub returns : goal.returns
returns c = added_reg_is_valid
