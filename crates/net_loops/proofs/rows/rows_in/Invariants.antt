use Rattle.std.proofs.Common.{◌≡◌, ◌++◌, drop}
use Rattle.net_loops.specs.Graphs.{rows_in}
use Rattle.net_loops.proofs.rows.rows_in.Given as goal

abbrev pub invariant-loop-node : goal.invariant-loop-node
invariant-loop-node l = l.rows.items ++ rows_in l.drivers (drop l.node-index l.nodes) ≡ rows_in l.drivers l.nodes
