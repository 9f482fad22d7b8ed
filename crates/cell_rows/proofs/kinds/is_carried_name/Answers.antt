use Rattle.cell_rows.proofs.Naming.{carried_is}
use Rattle.cell_rows.proofs.kinds.is_carried_name.Goals as goal

pub returns : goal.returns
returns c = carried_is c.args.name.now c.is_carried.result c.is_carried.ensures
