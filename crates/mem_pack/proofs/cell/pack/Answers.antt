use Rattle.mem_pack.proofs.Small.{packable_is_small}
use Rattle.mem_pack.proofs.cell.pack.Goals as goal

pub packed-requires : goal.packed-requires
packed-requires c = packable_is_small c.args.mem.now c.requires
