use Rattle.std.proofs.Common.{◌≡◌, ◌+◌, length}
use Rattle.net_wires.specs.Spans.{wire_bits}
use Rattle.net_checks.specs.Marks.{is_marked, wire_with}
use Rattle.net_checks.proofs.marking.wire_with.Given as goal

abbrev pub invariant-loop-rest : goal.invariant-loop-rest
invariant-loop-rest l = (wire_with (is_marked l.marks) l.from l.rest ≡ wire_with (is_marked l.marks) 0 l.items) × (l.from + wire_bits l.rest ≡ wire_bits l.items)

abbrev pub decreases-loop-rest : goal.decreases-loop-rest
decreases-loop-rest l = length l.rest
