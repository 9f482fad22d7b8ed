use Rattle.std.proofs.Common.{◌≡◌, ◌++◌, length, map}
use Rattle.net_core.specs.Nodes as nodes
use Rattle.net_loops.specs.Loops.{node_of}
use Rattle.net_module.proofs.node.push_reads.Given as goal

abbrev pub invariant-loop-rest : goal.invariant-loop-rest
invariant-loop-rest l = map node_of l.list.items ++ map nodes.read_node l.rest ≡ map node_of l.fn.list.items ++ map nodes.read_node l.fn.reads

abbrev pub decreases-loop-rest : goal.decreases-loop-rest
decreases-loop-rest l = length l.rest
