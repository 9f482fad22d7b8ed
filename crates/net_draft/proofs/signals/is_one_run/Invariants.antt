use Rattle.std.proofs.Common.{◌≡◌, length}
use Rattle.net_draft.specs.Signals as spec
use Rattle.net_draft.proofs.signals.is_one_run.Given as goal

abbrev pub invariant-loop-rest : goal.invariant-loop-rest
invariant-loop-rest l = spec.is_one_run l.rest ≡ spec.is_one_run l.fn.spots

abbrev pub decreases-loop-rest : goal.decreases-loop-rest
decreases-loop-rest l = length l.rest
