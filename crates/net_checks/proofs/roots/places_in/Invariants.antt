use Rattle.std.proofs.Common.{◌≡◌, ◌++◌, length}
use Rattle.net_checks.specs.ClockPins.{places_in}
use Rattle.net_checks.proofs.roots.places_in.Given as goal

abbrev pub invariant-loop-rest : goal.invariant-loop-rest
invariant-loop-rest l = l.places.items ++ places_in l.rest ≡ places_in l.bits

abbrev pub decreases-loop-rest : goal.decreases-loop-rest
decreases-loop-rest l = length l.rest
