use Rattle.emu_read.proofs.OtherRead.{other_read_is_valid}
use Rattle.emu_read.proofs.laws.other_read_is_valid.Goals as goal

pub returns : goal.returns
returns c = other_read_is_valid
