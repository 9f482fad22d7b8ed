use Rattle.std.proofs.Common.{◌≡◌, ◌++◌, length}
use Rattle.net_cells.specs.Parts as spec
use Rattle.net_cells.proofs.parts.edge_params.Given as goal

abbrev pub invariant-loop-rest : goal.invariant-loop-rest
invariant-loop-rest l = l.list.items ++ spec.edge_params l.name l.rising l.rest ≡ spec.edge_params l.fn.name l.fn.rising l.fn.params

abbrev pub decreases-loop-rest : goal.decreases-loop-rest
decreases-loop-rest l = length l.rest
