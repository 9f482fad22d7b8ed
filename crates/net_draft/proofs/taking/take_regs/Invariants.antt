use Rattle.std.proofs.Common.{◌≡◌, length}
use Rattle.net_draft.specs.Taking as spec
use Rattle.net_draft.proofs.taking.take_regs.Given as goal

abbrev pub invariant-loop-rest : goal.invariant-loop-rest
invariant-loop-rest l = spec.with_regs l.taken l.rest ≡ spec.with_regs l.initial.taken l.fn.regs

abbrev pub decreases-loop-rest : goal.decreases-loop-rest
decreases-loop-rest l = length l.rest
