use Rattle.std.proofs.Common.{◌≡◌, length}
use Rattle.net_draft.specs.Taking as spec
use Rattle.net_draft.proofs.taking.take_combs.Given as goal

abbrev pub invariant-loop-rest : goal.invariant-loop-rest
invariant-loop-rest l = spec.with_combs l.taken l.rest ≡ spec.with_combs l.initial.taken l.fn.combs

abbrev pub decreases-loop-rest : goal.decreases-loop-rest
decreases-loop-rest l = length l.rest
