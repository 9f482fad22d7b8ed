use Rattle.std.proofs.Common.{◌≡◌, length}
use Rattle.net_cells.specs.Starts as filling
use Rattle.net_cells.proofs.starts.put_wires.Given as goal

abbrev pub invariant-loop-rest : goal.invariant-loop-rest
invariant-loop-rest l = filling.put_wires l.table.items l.rest ≡ filling.put_wires l.initial.table.items l.fn.wires

abbrev pub decreases-loop-rest : goal.decreases-loop-rest
decreases-loop-rest l = length l.rest
