use Rattle.std.proofs.Common.{◌≡◌, ◌++◌, length}
use Rattle.net_draft.specs.Rams as spec
use Rattle.net_draft.proofs.rams.push_names.Given as goal

abbrev pub invariant-loop-rest : goal.invariant-loop-rest
invariant-loop-rest l = l.pins.items ++ spec.names_pins l.inverses l.variant l.group l.rest l.left ≡ l.initial.pins.items ++ spec.names_pins l.inverses l.variant l.group l.group.names l.fn.slots

abbrev pub decreases-loop-rest : goal.decreases-loop-rest
decreases-loop-rest l = length l.rest
