use Rattle.std.proofs.Common.{◌≡◌, ◌++◌, drop, map}
use Rattle.net_core.specs.Nodes.{reg_node}
use Rattle.net_core.specs.Wiring.{node_nets}
use Rattle.net_core.proofs.order.push_regs.Given as goal

abbrev pub invariant-loop-reg : goal.invariant-loop-reg
invariant-loop-reg l = l.nodes.items ++ map (λ r. node_nets (reg_node r)) (drop l.reg-index l.regs) ≡ l.initial.nodes.items ++ map (λ r. node_nets (reg_node r)) l.regs
