use Rattle.std.proofs.Common.{ℕ, ◌<◌}
use Rattle.net_loops.specs.Graphs.{IsOnRing}
use Rattle.net_loops.proofs.rings.first_ring.Given as goal

abbrev pub invariant-loop-node : goal.invariant-loop-node
invariant-loop-node l = (i : ℕ) → i < l.node → IsOnRing l.graph i → ⊥
