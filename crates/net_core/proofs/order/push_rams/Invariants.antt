use Rattle.std.proofs.Common.{◌≡◌, ◌++◌, drop, map}
use Rattle.std.specs.List.{flat_map}
use Rattle.net_core.specs.Nodes.{slot_node}
use Rattle.net_core.specs.Wiring.{node_nets}
use Rattle.net_core.proofs.order.push_rams.Given as goal

abbrev pub invariant-loop-ram : goal.invariant-loop-ram
invariant-loop-ram l = l.nodes.items ++ flat_map (λ c. map (λ s. node_nets (slot_node s)) c.slots) (drop l.ram-index l.rams) ≡ l.initial.nodes.items ++ flat_map (λ c. map (λ s. node_nets (slot_node s)) c.slots) l.rams
