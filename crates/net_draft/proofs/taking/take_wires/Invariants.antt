use Rattle.std.proofs.Common.{◌≡◌, length}
use Rattle.net_draft.specs.Taking as spec
use Rattle.net_draft.proofs.taking.take_wires.Given as goal

abbrev pub invariant-loop-rest : goal.invariant-loop-rest
invariant-loop-rest l = spec.with_wires l.taken l.rest ≡ spec.with_wires l.initial.taken l.fn.wires

abbrev pub decreases-loop-rest : goal.decreases-loop-rest
decreases-loop-rest l = length l.rest
