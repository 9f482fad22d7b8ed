use Rattle.emu_read.proofs.Emulated.{emulation_is_rewriting}
use Rattle.emu_read.proofs.laws.emulation_is_rewriting.Goals as goal

pub returns : goal.returns
returns c = emulation_is_rewriting
