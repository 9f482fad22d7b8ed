use Rattle.std.proofs.Common.{◌≡◌, ◌++◌, map, drop}
use Rattle.std.specs.List.{filter}
use Rattle.net_core.specs.Ports.{is_output_wire}
use Rattle.picked_run.proofs.ports.output_wires.Given as goal

abbrev pub invariant-loop-wire : goal.invariant-loop-wire
invariant-loop-wire l = map (λ r. r.now) l.outputs.items ++ filter is_output_wire (drop l.wire-index l.wires) ≡ filter is_output_wire l.wires
