use Rattle.std.proofs.Common.{◌≡◌, ◌++◌, length}
use Rattle.net_draft.specs.Rams as spec
use Rattle.net_draft.proofs.rams.groups_pins.Given as goal

abbrev pub invariant-loop-rest : goal.invariant-loop-rest
invariant-loop-rest l = l.pins.items ++ spec.groups_pins l.inverses l.variant l.rest l.left ≡ spec.groups_pins l.inverses l.variant l.variant.groups l.fn.slots

abbrev pub decreases-loop-rest : goal.decreases-loop-rest
decreases-loop-rest l = length l.rest
