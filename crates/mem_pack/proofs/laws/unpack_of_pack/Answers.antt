use Rattle.mem_pack.proofs.Back.{unpack_of_pack}
use Rattle.mem_pack.proofs.laws.unpack_of_pack.Goals as goal

pub returns : goal.returns
returns c = unpack_of_pack
