use Rattle.cell_rows.proofs.Naming.{carried_is}
use Rattle.net_gather.proofs.faces.is_carried_type.Goals as goal

pub returns : goal.returns
returns c = carried_is c.args.kind.now c.is_carried.result c.is_carried.ensures
