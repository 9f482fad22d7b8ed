use Rattle.std.proofs.Common.{◌≡◌, length}
use Rattle.net_draft.specs.Starts as spec
use Rattle.net_draft.proofs.starts.put_values.Given as goal

abbrev pub invariant-loop-rest : goal.invariant-loop-rest
invariant-loop-rest l = spec.put_values l.starts.items l.rest l.left ≡ spec.put_values l.initial.starts.items l.fn.nets l.fn.values

abbrev pub decreases-loop-rest : goal.decreases-loop-rest
decreases-loop-rest l = length l.rest
