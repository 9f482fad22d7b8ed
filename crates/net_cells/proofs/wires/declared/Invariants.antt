use Rattle.std.proofs.Common.{◌≡◌, ◌++◌, length}
use Rattle.net_cells.specs.Wires as spec
use Rattle.net_cells.proofs.wires.declared.Given as goal

abbrev pub invariant-loop-rest : goal.invariant-loop-rest
invariant-loop-rest l = l.mems.items ++ spec.declared l.rest ≡ spec.declared l.fn.items

abbrev pub decreases-loop-rest : goal.decreases-loop-rest
decreases-loop-rest l = length l.rest
