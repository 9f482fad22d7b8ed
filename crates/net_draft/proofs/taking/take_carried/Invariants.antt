use Rattle.std.proofs.Common.{◌≡◌, length}
use Rattle.net_draft.specs.Taking as spec
use Rattle.net_draft.proofs.taking.take_carried.Given as goal

abbrev pub invariant-loop-rest : goal.invariant-loop-rest
invariant-loop-rest l = spec.with_carried l.taken l.rest ≡ spec.with_carried l.initial.taken l.fn.cells

abbrev pub decreases-loop-rest : goal.decreases-loop-rest
decreases-loop-rest l = length l.rest
