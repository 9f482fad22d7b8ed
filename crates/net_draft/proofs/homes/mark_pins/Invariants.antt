use Rattle.std.proofs.Common.{◌≡◌, length}
use Rattle.net_draft.specs.Homes as spec
use Rattle.net_draft.proofs.homes.mark_pins.Given as goal

abbrev pub invariant-loop-rest : goal.invariant-loop-rest
invariant-loop-rest l = spec.mark_pins l.marks.items l.rest ≡ spec.mark_pins l.initial.marks.items l.fn.pins

abbrev pub decreases-loop-rest : goal.decreases-loop-rest
decreases-loop-rest l = length l.rest
