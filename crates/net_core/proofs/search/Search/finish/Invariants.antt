use Rattle.std.proofs.Common.{◌+◌, ◌*◌, length, sum}
use Rattle.net_core.specs.Search.{Searching, NoneNew}
use Rattle.net_core.proofs.search.Search.finish.Given as goal

abbrev pub invariant-loop-node : goal.invariant-loop-node
invariant-loop-node l = Searching l.graph l.self.marks.items l.self.left.items l.self.stack.items l.self.order.items × NoneNew l.fn.self.marks.items l.self.marks.items

abbrev pub decreases-loop-node : goal.decreases-loop-node
decreases-loop-node l = 2 * sum l.self.left.items + length l.self.stack.items
