use Rattle.std.proofs.Common.{◌≡◌, ◌≤◌, ◌+◌, ◌-◌, ◌^◌, length}
use Rattle.std.specs.List.{flat_map}
use Rattle.trace_text.specs.Trace.{cell_rows}
use Rattle.trace_text.specs.Lengths.{capped, all_bytes}
use Rattle.trace_text.proofs.length.with_cells.Given as goal

abbrev pub invariant-loop-rest : goal.invariant-loop-rest
invariant-loop-rest l = record {
  count : capped (l.lines.count + length (flat_map cell_rows l.rest)) ≡ capped (l.fn.start.count + length (flat_map cell_rows l.cells));
  bytes : capped (l.lines.bytes + all_bytes (flat_map cell_rows l.rest)) ≡ capped (l.fn.start.bytes + all_bytes (flat_map cell_rows l.cells));
  few : l.lines.count ≤ 2 ^ 64 - 1;
  small : l.lines.bytes ≤ 2 ^ 64 - 1;
}

abbrev pub decreases-loop-rest : goal.decreases-loop-rest
decreases-loop-rest l = length l.rest
