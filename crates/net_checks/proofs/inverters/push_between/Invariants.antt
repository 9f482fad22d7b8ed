use Rattle.std.proofs.Common.{◌≡◌, ◌++◌, length}
use Rattle.net_checks.specs.ClockPins.{inverters_between}
use Rattle.net_checks.proofs.inverters.push_between.Given as goal

abbrev pub invariant-loop-rest : goal.invariant-loop-rest
invariant-loop-rest l = l.found.items ++ inverters_between l.above l.left l.rest ≡ l.initial.found.items ++ inverters_between l.above l.from l.to

abbrev pub decreases-loop-rest : goal.decreases-loop-rest
decreases-loop-rest l = length l.rest
