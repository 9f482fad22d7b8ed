use Rattle.std.proofs.Common.{◌≡◌, ◌≤◌, ◌+◌, length}
use Rattle.net_wires.specs.Spans.{wire_bits}
use Rattle.net_gather.specs.Sizes.{size_faults}
use Rattle.net_gather.proofs.sizes.count_bits.Given as goal

abbrev pub invariant-loop-rest : goal.invariant-loop-rest
invariant-loop-rest l =
    (size_faults l.place l.bits l.rest ≡ size_faults 0 0 l.items) × (l.bits + wire_bits l.rest ≡ wire_bits l.items) × (l.place + length l.rest ≡ length l.items) × (l.bits ≤ 4194304)

abbrev pub decreases-loop-rest : goal.decreases-loop-rest
decreases-loop-rest l = length l.rest
