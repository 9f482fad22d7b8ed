use Rattle.std.proofs.Common.{◌≡◌, ◌++◌, length}
use Rattle.net_draft.specs.Rams as spec
use Rattle.net_draft.proofs.rams.push_pins.Given as goal

abbrev pub invariant-loop-rest : goal.invariant-loop-rest
invariant-loop-rest l = l.pins.items ++ spec.some_pins l.inverses l.variant l.group l.name l.slot l.rest ≡ l.initial.pins.items ++ spec.some_pins l.inverses l.variant l.group l.name l.slot l.fn.wanted

abbrev pub decreases-loop-rest : goal.decreases-loop-rest
decreases-loop-rest l = length l.rest
