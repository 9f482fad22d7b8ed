use Rattle.std.proofs.Common.{◌≡◌, ◌++◌, length, map}
use Rattle.trace_text.specs.Trace.{pin_row, reading}
use Rattle.trace_text.proofs.rows.push_pins.Given as goal

abbrev pub invariant-loop-rest : goal.invariant-loop-rest
invariant-loop-rest l = l.rows.items ++ map (λ p. pin_row l.cell p) (reading l.rest) ≡ l.initial.rows.items ++ map (λ p. pin_row l.cell p) (reading l.pins)

abbrev pub decreases-loop-rest : goal.decreases-loop-rest
decreases-loop-rest l = length l.rest
