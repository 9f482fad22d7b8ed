use Rattle.std.proofs.Common.{◌≡◌, length}
use Rattle.net_draft.specs.Homes as spec
use Rattle.net_draft.proofs.homes.mark_cells.Given as goal

abbrev pub invariant-loop-rest : goal.invariant-loop-rest
invariant-loop-rest l = spec.mark_cells l.marks.items l.rest ≡ spec.mark_cells l.initial.marks.items l.fn.cells

abbrev pub decreases-loop-rest : goal.decreases-loop-rest
decreases-loop-rest l = length l.rest
