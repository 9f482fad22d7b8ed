use Rattle.net_core.specs.Pins.{ram_bits}
use Rattle.net_edit.proofs.Using.{ended}
use Rattle.net_edit.proofs.readers.more_rams.Goals as goal

pub returns : goal.returns
returns c = ended ram_bits c.args.net c.loop-rest.count _ c.loop-rest.rest.now c.in_default.len_below c.loop-rest.invariant.low c.loop-rest.invariant.left
