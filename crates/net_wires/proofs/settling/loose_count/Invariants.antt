use Rattle.std.proofs.Common.{◌≡◌, ◌+◌, ◌≤◌, length}
use Rattle.net_wires.specs.Settled.{loose_count}
use Rattle.net_wires.proofs.settling.loose_count.Given as goal

abbrev pub invariant-loop-rest : goal.invariant-loop-rest
invariant-loop-rest l = (l.count + loose_count l.rest ≡ loose_count l.bits) × (l.count + length l.rest ≤ length l.bits)

abbrev pub decreases-loop-rest : goal.decreases-loop-rest
decreases-loop-rest l = length l.rest
