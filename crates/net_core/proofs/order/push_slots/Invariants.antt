use Rattle.std.proofs.Common.{◌≡◌, ◌++◌, drop, map}
use Rattle.net_core.specs.Nodes.{slot_node}
use Rattle.net_core.specs.Wiring.{node_nets}
use Rattle.net_core.proofs.order.push_slots.Given as goal

abbrev pub invariant-loop-slot : goal.invariant-loop-slot
invariant-loop-slot l = l.nodes.items ++ map (λ s. node_nets (slot_node s)) (drop l.slot-index l.slots) ≡ l.initial.nodes.items ++ map (λ s. node_nets (slot_node s)) l.slots
