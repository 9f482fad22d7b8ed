use Rattle.mem_pack.proofs.Widths.{packed_has_pins}
use Rattle.mem_pack.proofs.laws.packed_has_pins.Goals as goal

pub returns : goal.returns
returns c = packed_has_pins
