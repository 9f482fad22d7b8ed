use Rattle.std.proofs.Common.{◌≡◌, length}
use Rattle.net_draft.specs.Starts as spec
use Rattle.net_draft.proofs.starts.put_cells.Given as goal

abbrev pub invariant-loop-rest : goal.invariant-loop-rest
invariant-loop-rest l = spec.put_cells l.starts.items l.rest ≡ spec.put_cells l.initial.starts.items l.fn.cells

abbrev pub decreases-loop-rest : goal.decreases-loop-rest
decreases-loop-rest l = length l.rest
