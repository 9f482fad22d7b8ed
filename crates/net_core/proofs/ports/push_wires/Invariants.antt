use Rattle.std.proofs.Common.{◌≡◌, ◌++◌, map, drop}
use Rattle.net_core.specs.Ports.{wire_bits, nets_of}
use Rattle.net_core.proofs.ports.push_wires.Given as goal

abbrev pub invariant-loop-wire : goal.invariant-loop-wire
invariant-loop-wire l = l.nets.items ++ nets_of (wire_bits (map (λ r. r.now) (drop l.wire-index l.wires))) ≡ l.initial.nets.items ++ nets_of (wire_bits (map (λ r. r.now) l.wires))
