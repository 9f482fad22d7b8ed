use Rattle.net_core.specs.Pins.{reg_bits}
use Rattle.net_edit.proofs.Using.{ended}
use Rattle.net_edit.proofs.readers.more_regs.Goals as goal

pub returns : goal.returns
returns c = ended reg_bits c.args.net c.loop-rest.count _ c.loop-rest.rest.now c.in_default.len_below c.loop-rest.invariant.low c.loop-rest.invariant.left
