use Rattle.cell_rows.proofs.Naming.{ff_named_is}
use Rattle.cell_rows.proofs.kinds.ff_named.Goals as goal

pub returns : goal.returns
returns c = ff_named_is c.args.name.now c.ff_kind.result c.ff_kind.ensures
