use Rattle.std.proofs.Common.{◌≡◌, ◌++◌, drop}
use Rattle.std.specs.List.{flat_map}
use Rattle.net_core.specs.Ports.{wire_bits}
use Rattle.std.specs.Prelude.{map}
use Rattle.picked_run.proofs.ports.push_wires.Given as goal

abbrev pub invariant-loop-wire : goal.invariant-loop-wire
invariant-loop-wire l = l.bits.items ++ wire_bits (map (λ r. r.now) (drop l.wire-index l.wires)) ≡ l.initial.bits.items ++ wire_bits (map (λ r. r.now) l.wires)
