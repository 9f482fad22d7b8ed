use Rattle.std.proofs.Common.{◌≡◌, ◌++◌, length}
use Rattle.net_cells.specs.Parts as spec
use Rattle.net_cells.proofs.parts.turned_params.Given as goal

abbrev pub invariant-loop-rest : goal.invariant-loop-rest
invariant-loop-rest l = l.list.items ++ spec.turned_params l.name l.count l.flips l.rest ≡ spec.turned_params l.fn.name l.fn.count l.fn.flips l.fn.params

abbrev pub decreases-loop-rest : goal.decreases-loop-rest
decreases-loop-rest l = length l.rest
