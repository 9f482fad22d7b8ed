use Rattle.std.proofs.Common.{◌≡◌, ◌++◌, drop, map}
use Rattle.std.specs.List.{flat_map}
use Rattle.net_core.specs.Nodes.{read_node}
use Rattle.net_core.specs.Wiring.{node_nets}
use Rattle.net_core.proofs.order.push_mems.Given as goal

abbrev pub invariant-loop-mem : goal.invariant-loop-mem
invariant-loop-mem l = l.nodes.items ++ flat_map (λ x. map (λ r. node_nets (read_node r)) x.reads) (drop l.mem-index l.mems) ≡ l.initial.nodes.items ++ flat_map (λ x. map (λ r. node_nets (read_node r)) x.reads) l.mems
