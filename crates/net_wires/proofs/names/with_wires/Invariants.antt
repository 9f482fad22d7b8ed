use Rattle.std.specs.Prelude.{length}
use Rattle.net_wires.specs.Spans.{spans, wire_bits}
use Rattle.net_wires.proofs.Looking.{Going}
use Rattle.net_wires.proofs.names.with_wires.Given as goal

abbrev pub invariant-loop-rest : goal.invariant-loop-rest
invariant-loop-rest l = Going l.names (spans 0 l.items) (wire_bits l.items) l.base l.rest

abbrev pub decreases-loop-rest : goal.decreases-loop-rest
decreases-loop-rest l = length l.rest
