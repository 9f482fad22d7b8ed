use Rattle.std.proofs.Common.{◌≡◌, ◌++◌, drop, map}
use Rattle.net_core.specs.Nodes.{comb_node}
use Rattle.net_core.specs.Wiring.{node_nets}
use Rattle.net_core.proofs.order.push_combs.Given as goal

abbrev pub invariant-loop-comb : goal.invariant-loop-comb
invariant-loop-comb l = l.nodes.items ++ map (λ c. node_nets (comb_node c)) (drop l.comb-index l.combs) ≡ l.initial.nodes.items ++ map (λ c. node_nets (comb_node c)) l.combs
