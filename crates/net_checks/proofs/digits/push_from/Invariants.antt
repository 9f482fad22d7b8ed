use Rattle.std.proofs.Common.{◌≡◌, ◌++◌, length}
use Rattle.net_gather.specs.Laws.{places_from}
use Rattle.net_checks.proofs.digits.push_from.Given as goal

abbrev pub invariant-loop-rest : goal.invariant-loop-rest
invariant-loop-rest l = l.places.items ++ places_from l.from l.rest ≡ l.initial.places.items ++ places_from l.from l.bits

abbrev pub decreases-loop-rest : goal.decreases-loop-rest
decreases-loop-rest l = length l.rest
