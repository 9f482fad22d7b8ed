use Rattle.std.proofs.Common.{◌≡◌, ◌++◌, length}
use Rattle.net_draft.specs.Wires as spec
use Rattle.net_draft.proofs.wires.push_wires.Given as goal

abbrev pub invariant-loop-rest : goal.invariant-loop-rest
invariant-loop-rest l = l.items.items ++ spec.wire_items l.starts l.rest ≡ l.initial.items.items ++ spec.wire_items l.starts l.fn.wires

abbrev pub decreases-loop-rest : goal.decreases-loop-rest
decreases-loop-rest l = length l.rest
