use Rattle.std.proofs.Common.{◌≡◌, ◌≤◌, ◌+◌, ◌-◌, ◌^◌, map, length}
use Rattle.std.specs.List.{filter}
use Rattle.net_core.specs.Ports.{is_output_wire}
use Rattle.trace_text.specs.Trace.{wire_row}
use Rattle.trace_text.specs.Lengths.{capped, all_bytes}
use Rattle.trace_text.proofs.length.with_wires.Given as goal

abbrev pub invariant-loop-rest : goal.invariant-loop-rest
invariant-loop-rest l = record {
  count : capped (l.lines.count + length (map (λ w. wire_row w) (filter is_output_wire l.rest))) ≡ capped (l.fn.start.count + length (map (λ w. wire_row w) (filter is_output_wire l.wires)));
  bytes : capped (l.lines.bytes + all_bytes (map (λ w. wire_row w) (filter is_output_wire l.rest))) ≡ capped (l.fn.start.bytes + all_bytes (map (λ w. wire_row w) (filter is_output_wire l.wires)));
  few : l.lines.count ≤ 2 ^ 64 - 1;
  small : l.lines.bytes ≤ 2 ^ 64 - 1;
}

abbrev pub decreases-loop-rest : goal.decreases-loop-rest
decreases-loop-rest l = length l.rest
