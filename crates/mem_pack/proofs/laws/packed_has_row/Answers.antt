use Rattle.mem_pack.proofs.Row.{packed_has_row}
use Rattle.mem_pack.proofs.laws.packed_has_row.Goals as goal

pub returns : goal.returns
returns c = packed_has_row
