use Rattle.std.proofs.Common.{◌≡◌, ◌+◌, ◌++◌, length}
use Rattle.net_wires.specs.Spans.{wire_bits}
use Rattle.net_checks.specs.Marks.{port_bits}
use Rattle.net_checks.proofs.marking.port_bits.Given as goal

abbrev pub invariant-loop-rest : goal.invariant-loop-rest
invariant-loop-rest l = (l.bits.items ++ port_bits l.port l.from l.rest ≡ port_bits l.port 0 l.items) × (l.from + wire_bits l.rest ≡ wire_bits l.items)

abbrev pub decreases-loop-rest : goal.decreases-loop-rest
decreases-loop-rest l = length l.rest
