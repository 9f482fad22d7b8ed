use Rattle.std.proofs.Common.{rules}
use Rattle.cell_table.proofs.row.copy_from.Goals as goal

pub returns : goal.returns
returns c = λ k h. let e = c.fill.ensures k h in search rules
