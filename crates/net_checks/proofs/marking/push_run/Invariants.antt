use Rattle.std.proofs.Common.{◌≡◌, ◌++◌}
use Rattle.net_wires.specs.Signals.{run_bits}
use Rattle.net_checks.proofs.marking.push_run.Given as goal

abbrev pub invariant-loop-k : goal.invariant-loop-k
invariant-loop-k l = l.bits.items ≡ l.initial.bits.items ++ run_bits l.from l.k
