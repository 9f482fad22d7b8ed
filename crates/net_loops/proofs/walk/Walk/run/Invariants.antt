use Rattle.std.proofs.Common.{◌+◌, ◌*◌, length, sum}
use Rattle.net_loops.specs.Walks.{Walking, BeginsAs, KeepsLabels}
use Rattle.net_loops.proofs.walk.Walk.run.Given as goal

abbrev pub invariant-loop-node : goal.invariant-loop-node
invariant-loop-node l = Walking l.graph l.goal 4294967295 l.label l.self.labels.items l.self.left.items l.self.stack.items l.self.done.items × BeginsAs l.fn.self.stack.items l.self.stack.items × KeepsLabels l.label l.fn.self.labels.items l.self.labels.items

abbrev pub decreases-loop-node : goal.decreases-loop-node
decreases-loop-node l = 2 * sum l.self.left.items + length l.self.stack.items
