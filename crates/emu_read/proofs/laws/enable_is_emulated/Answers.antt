use Rattle.emu_read.proofs.EnableOutside.{enable_is_emulated}
use Rattle.emu_read.proofs.laws.enable_is_emulated.Goals as goal

pub returns : goal.returns
returns c = enable_is_emulated
