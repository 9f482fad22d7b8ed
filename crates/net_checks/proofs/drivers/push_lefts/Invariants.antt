use Rattle.std.proofs.Common.{◌≡◌, ◌++◌, map, take}
use Rattle.net_checks.specs.Driven.{left_of}
use Rattle.net_checks.proofs.drivers.push_lefts.Given as goal

abbrev pub invariant-loop-pair : goal.invariant-loop-pair
invariant-loop-pair l = l.bits.items ≡ l.initial.bits.items ++ map left_of (take l.pair-index l.pairs)
