use Rattle.cell_rows.proofs.Naming.{comb_named_is}
use Rattle.cell_rows.proofs.kinds.comb_named.Goals as goal

pub returns : goal.returns
returns c = comb_named_is c.args.name.now c.comb_kind.result c.comb_kind.ensures
