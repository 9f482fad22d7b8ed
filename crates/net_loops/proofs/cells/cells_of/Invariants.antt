use Rattle.std.proofs.Common.{◌≡◌, ◌++◌, drop, map}
use Rattle.net_core.specs.Nodes.{comb_node}
use Rattle.net_loops.specs.Loops.{nodes_in}
use Rattle.net_loops.proofs.cells.cells_of.Given as goal

abbrev pub invariant-loop-node : goal.invariant-loop-node
invariant-loop-node l = map comb_node l.cells.items ++ nodes_in (drop l.node-index l.nodes) ≡ nodes_in l.nodes
