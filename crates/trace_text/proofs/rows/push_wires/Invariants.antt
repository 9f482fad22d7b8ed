use Rattle.std.proofs.Common.{◌≡◌, ◌++◌, length, map}
use Rattle.trace_text.specs.Trace.{wire_row}
use Rattle.trace_text.proofs.rows.push_wires.Given as goal

abbrev pub invariant-loop-rest : goal.invariant-loop-rest
invariant-loop-rest l = l.rows.items ++ map (λ w. wire_row w) (map (λ r. r.now) l.rest) ≡ l.initial.rows.items ++ map (λ w. wire_row w) (map (λ r. r.now) l.wires)

abbrev pub decreases-loop-rest : goal.decreases-loop-rest
decreases-loop-rest l = length l.rest
