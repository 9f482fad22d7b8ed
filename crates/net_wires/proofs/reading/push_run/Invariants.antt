use Rattle.std.proofs.Common.{◌≡◌, ◌≤◌, ◌++◌, reverse}
use Rattle.net_wires.specs.Signals.{run_bits}
use Rattle.net_wires.proofs.reading.push_run.Given as goal

abbrev pub invariant-loop-left : goal.invariant-loop-left
invariant-loop-left l = (l.bits.items ++ reverse (run_bits l.run.base l.left) ≡ l.initial.bits.items ++ reverse (run_bits l.run.base l.run.width)) × (l.left ≤ l.run.width)

abbrev pub decreases-loop-left : goal.decreases-loop-left
decreases-loop-left l = l.left
