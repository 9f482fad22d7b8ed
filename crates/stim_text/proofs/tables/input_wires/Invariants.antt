use Rattle.std.proofs.Common.{◌≡◌, ◌++◌, map, drop}
use Rattle.std.specs.List.{filter}
use Rattle.net_core.specs.Ports.{is_input_wire}
use Rattle.stim_text.proofs.tables.input_wires.Given as goal

abbrev pub invariant-loop-wire : goal.invariant-loop-wire
invariant-loop-wire l = map (λ r. r.now) l.inputs.items ++ filter is_input_wire (drop l.wire-index l.wires) ≡ filter is_input_wire l.wires
