use Rattle.std.proofs.Common.{◌≡◌, ◌++◌, length}
use Rattle.net_draft.specs.Connects as spec
use Rattle.net_draft.proofs.connects.push_connects.Given as goal

abbrev pub invariant-loop-rest : goal.invariant-loop-rest
invariant-loop-rest l = l.items.items ++ spec.connects l.sheet l.place l.rest ≡ l.initial.items.items ++ spec.connects l.sheet 0 l.fn.wires

abbrev pub decreases-loop-rest : goal.decreases-loop-rest
decreases-loop-rest l = length l.rest
