use Rattle.std.proofs.Common.{◌≡◌, length}
use Rattle.net_draft.specs.Homes as spec
use Rattle.net_draft.proofs.homes.settle_bits.Given as goal

abbrev pub invariant-loop-rest : goal.invariant-loop-rest
invariant-loop-rest l = spec.settle_bits l.homes.items l.wire l.place l.rest ≡ spec.settle_bits l.initial.homes.items l.wire 0 l.fn.bits

abbrev pub decreases-loop-rest : goal.decreases-loop-rest
decreases-loop-rest l = length l.rest
