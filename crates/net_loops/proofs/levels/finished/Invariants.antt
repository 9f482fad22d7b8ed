use Rattle.net_loops.specs.Walks.{Resting}
use Rattle.net_loops.proofs.levels.finished.Given as goal

abbrev pub invariant-loop-node : goal.invariant-loop-node
invariant-loop-node l = Resting l.graph 4294967295 0 l.walk.labels.items l.walk.left.items l.walk.stack.items l.walk.done.items
