use Rattle.std.proofs.Common.{◌≡◌, ◌++◌, length}
use Rattle.net_cells.specs.Wires as spec
use Rattle.net_cells.proofs.wires.wires_from.Given as goal

abbrev pub invariant-loop-rest : goal.invariant-loop-rest
invariant-loop-rest l = l.wires.items ++ spec.wires_from l.left l.rest ≡ spec.wires_from l.fn.places l.fn.items

abbrev pub decreases-loop-rest : goal.decreases-loop-rest
decreases-loop-rest l = length l.rest
