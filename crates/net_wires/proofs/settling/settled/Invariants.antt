use Rattle.std.proofs.Common.{◌≡◌, ◌+◌, ◌++◌, length}
use Rattle.net_wires.specs.Settled.{loose_count, settled}
use Rattle.net_wires.proofs.settling.settled.Given as goal

abbrev pub invariant-loop-rest : goal.invariant-loop-rest
invariant-loop-rest l = (l.found.items ++ settled l.next l.rest ≡ settled l.fn.next l.bits) × (l.next + loose_count l.rest ≡ l.fn.next + loose_count l.bits)

abbrev pub decreases-loop-rest : goal.decreases-loop-rest
decreases-loop-rest l = length l.rest
