use Rattle.net_edit.specs.Users.{part_reads}
use Rattle.net_edit.proofs.Using.{ended}
use Rattle.net_edit.proofs.readers.more_parts.Goals as goal

pub returns : goal.returns
returns c = ended part_reads c.args.net c.loop-rest.count _ c.loop-rest.rest.now c.in_default.len_below c.loop-rest.invariant.low c.loop-rest.invariant.left
