use Rattle.std.proofs.Common.{◌≡◌, ◌++◌, length, map}
use Rattle.net_core.specs.Ports.{wire_bits}
use Rattle.stim_text.specs.Inputs.{with_wires}
use Rattle.stim_text.proofs.tables.add_wires.Given as goal

abbrev pub invariant-loop-rest : goal.invariant-loop-rest
invariant-loop-rest l = record {
  bits : l.bits.items ++ wire_bits (map (λ r. r.now) l.rest) ≡ l.initial.bits.items ++ wire_bits (map (λ r. r.now) l.ports);
  wires : with_wires (length l.bits.items) l.wires (map (λ r. r.now) l.rest) ≡ with_wires (length l.initial.bits.items) l.initial.wires (map (λ r. r.now) l.ports);
}

abbrev pub decreases-loop-rest : goal.decreases-loop-rest
decreases-loop-rest l = length l.rest
