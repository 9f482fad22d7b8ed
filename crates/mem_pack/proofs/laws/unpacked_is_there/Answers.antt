use Rattle.mem_pack.proofs.Whole.{unpacked_is_there}
use Rattle.mem_pack.proofs.laws.unpacked_is_there.Goals as goal

pub returns : goal.returns
returns c = unpacked_is_there
