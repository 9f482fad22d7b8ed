use Rattle.std.proofs.Common.{◌≡◌, length}
use Rattle.net_checks.specs.ClockPins.{last_bit}
use Rattle.net_checks.proofs.inverters.last_bit.Given as goal

abbrev pub invariant-loop-rest : goal.invariant-loop-rest
invariant-loop-rest l = last_bit l.last l.rest ≡ last_bit l.fn.other l.bits

abbrev pub decreases-loop-rest : goal.decreases-loop-rest
decreases-loop-rest l = length l.rest
