use Rattle.std.proofs.Common.{◌≡◌, ◌++◌, map, length}
use Rattle.net_wires.specs.Signals.{digit_source}
use Rattle.net_wires.proofs.constant.push_digits.Given as goal

abbrev pub invariant-loop-rest : goal.invariant-loop-rest
invariant-loop-rest l = l.bits.items ++ map digit_source l.rest ≡ l.initial.bits.items ++ map digit_source l.digits

abbrev pub decreases-loop-rest : goal.decreases-loop-rest
decreases-loop-rest l = length l.rest
