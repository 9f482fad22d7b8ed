use Rattle.std.proofs.Common.{◌≡◌, ◌≤◌, ◌++◌, reverse}
use Rattle.net_wires.specs.Signals.{number_bits}
use Rattle.net_wires.proofs.constant.push_number.Given as goal

abbrev pub invariant-loop-left : goal.invariant-loop-left
invariant-loop-left l = (l.bits.items ++ reverse (number_bits l.value l.left) ≡ l.initial.bits.items ++ reverse (number_bits l.value l.count)) × (l.left ≤ l.count)

abbrev pub decreases-loop-left : goal.decreases-loop-left
decreases-loop-left l = l.left
