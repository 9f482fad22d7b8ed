use Rattle.std.proofs.Common.{◌≡◌, ◌≤◌, ◌+◌, ◌-◌, ◌^◌, map, length}
use Rattle.trace_text.specs.Trace.{pin_row, reading}
use Rattle.trace_text.specs.Lengths.{capped, all_bytes}
use Rattle.trace_text.proofs.length.with_pins.Given as goal

abbrev pub invariant-loop-rest : goal.invariant-loop-rest
invariant-loop-rest l = record {
  count : capped (l.lines.count + length (map (λ p. pin_row l.cell p) (reading l.rest))) ≡ capped (l.fn.start.count + length (map (λ p. pin_row l.cell p) (reading l.pins)));
  bytes : capped (l.lines.bytes + all_bytes (map (λ p. pin_row l.cell p) (reading l.rest))) ≡ capped (l.fn.start.bytes + all_bytes (map (λ p. pin_row l.cell p) (reading l.pins)));
  few : l.lines.count ≤ 2 ^ 64 - 1;
  small : l.lines.bytes ≤ 2 ^ 64 - 1;
}

abbrev pub decreases-loop-rest : goal.decreases-loop-rest
decreases-loop-rest l = length l.rest
