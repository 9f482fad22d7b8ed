use Rattle.mem_pack.proofs.Within.{packed_is_within}
use Rattle.mem_pack.proofs.laws.packed_is_within.Goals as goal

pub returns : goal.returns
returns c = packed_is_within
