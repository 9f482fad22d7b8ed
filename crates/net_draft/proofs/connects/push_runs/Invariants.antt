use Rattle.std.proofs.Common.{◌≡◌, ◌++◌, [], length}
use Rattle.net_draft.specs.Connects as spec
use Rattle.net_draft.proofs.connects.push_runs.Given as goal

abbrev pub invariant-loop-rest : goal.invariant-loop-rest
invariant-loop-rest l = l.items.items ++ spec.connects_from l.sheet l.wire l.from l.place l.run.items l.rest ≡ l.initial.items.items ++ spec.connects_from l.sheet l.wire 0 0 [] l.fn.bits

abbrev pub decreases-loop-rest : goal.decreases-loop-rest
decreases-loop-rest l = length l.rest
