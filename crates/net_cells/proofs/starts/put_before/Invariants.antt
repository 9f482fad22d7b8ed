use Rattle.std.proofs.Common.{◌≡◌, ◌++◌, length}
use Rattle.net_cells.specs.Wires as wires
use Rattle.net_cells.proofs.starts.put_before.Given as goal

abbrev pub invariant-loop-rest : goal.invariant-loop-rest
invariant-loop-rest l = l.list.items ++ wires.put_before l.left l.rest ≡ wires.put_before l.fn.bits l.fn.others

abbrev pub decreases-loop-rest : goal.decreases-loop-rest
decreases-loop-rest l = length l.rest
