use Rattle.std.proofs.Common.{◌≡◌, ◌++◌, length}
use Rattle.net_wires.specs.Clocks.{tied_digits}
use Rattle.net_wires.proofs.clocking.tied_digits.Given as goal

abbrev pub invariant-loop-rest : goal.invariant-loop-rest
invariant-loop-rest l = l.places.items ++ tied_digits l.rest ≡ tied_digits l.pairs

abbrev pub decreases-loop-rest : goal.decreases-loop-rest
decreases-loop-rest l = length l.rest
