use Rattle.std.proofs.Common.{◌≡◌, length}
use Rattle.net_cells.specs.Starts as filling
use Rattle.net_cells.proofs.starts.put_starts.Given as goal

abbrev pub invariant-loop-rest : goal.invariant-loop-rest
invariant-loop-rest l = filling.put_starts l.table.items l.rest l.left ≡ filling.put_starts l.initial.table.items l.fn.bits l.fn.starts

abbrev pub decreases-loop-rest : goal.decreases-loop-rest
decreases-loop-rest l = length l.rest
