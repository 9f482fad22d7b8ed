use Rattle.std.proofs.Common.{◌≡◌, ◌++◌, length}
use Rattle.net_draft.specs.Starts as spec
use Rattle.net_draft.proofs.starts.starts_at.Given as goal

abbrev pub invariant-loop-rest : goal.invariant-loop-rest
invariant-loop-rest l = l.values.items ++ spec.starts_at l.starts l.rest l.left ≡ spec.starts_at l.fn.starts l.fn.bits l.fn.said

abbrev pub decreases-loop-rest : goal.decreases-loop-rest
decreases-loop-rest l = length l.rest
