use Rattle.std.proofs.Common.{◌≡◌, ◌++◌, drop, map}
use Rattle.net_core.specs.Wiring.{rows, drivers_of}
use Rattle.net_core.proofs.order.graph.Given as goal

abbrev pub invariant-loop-node : goal.invariant-loop-node
invariant-loop-node l = l.graph.items ++ map (λ p. drivers_of (rows l.table) p.needs) (drop l.node-index l.nodes) ≡ map (λ p. drivers_of (rows l.table) p.needs) l.nodes
