use Rattle.std.proofs.Common.{◌≡◌, ◌++◌, drop}
use Rattle.net_loops.specs.Graphs.{drives_in}
use Rattle.net_loops.proofs.rows.drives_in.Given as goal

abbrev pub invariant-loop-node : goal.invariant-loop-node
invariant-loop-node l = l.rows.items ++ drives_in (drop l.node-index l.nodes) ≡ drives_in l.nodes
