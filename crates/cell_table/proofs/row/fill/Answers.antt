use Rattle.cell_table.proofs.Operands.{filled_more}
use Rattle.cell_table.proofs.row.fill.Goals as goal
use Rattle.std.proofs.Common.{arith}

pub loop-place-preserved : goal.loop-place-preserved
loop-place-preserved g c = filled_more (goal.F-post g c.args.bit) c.loop-place.out c.loop-place.place c.bit.result (omega arith) c.loop-place.invariant c.bit.ensures
