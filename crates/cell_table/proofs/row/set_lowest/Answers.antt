use Rattle.std.proofs.Common.{rules}
use Rattle.cell_table.proofs.row.set_lowest.Goals as goal

pub returns : goal.returns
returns c = λ k h. let e = c.fill.ensures k h in search rules
