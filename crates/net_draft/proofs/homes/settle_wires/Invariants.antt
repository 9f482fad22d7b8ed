use Rattle.std.proofs.Common.{◌≡◌, length}
use Rattle.net_draft.specs.Homes as spec
use Rattle.net_draft.proofs.homes.settle_wires.Given as goal

abbrev pub invariant-loop-rest : goal.invariant-loop-rest
invariant-loop-rest l = spec.settle_wires l.homes.items l.place l.inputs_alone l.rest ≡ spec.settle_wires l.initial.homes.items 0 l.inputs_alone l.fn.wires

abbrev pub decreases-loop-rest : goal.decreases-loop-rest
decreases-loop-rest l = length l.rest
