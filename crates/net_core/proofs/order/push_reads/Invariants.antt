use Rattle.std.proofs.Common.{◌≡◌, ◌++◌, drop, map}
use Rattle.net_core.specs.Nodes.{read_node}
use Rattle.net_core.specs.Wiring.{node_nets}
use Rattle.net_core.proofs.order.push_reads.Given as goal

abbrev pub invariant-loop-read : goal.invariant-loop-read
invariant-loop-read l = l.nodes.items ++ map (λ r. node_nets (read_node r)) (drop l.read-index l.reads) ≡ l.initial.nodes.items ++ map (λ r. node_nets (read_node r)) l.reads
