use Rattle.std.proofs.Common.{length}
use Rattle.net_draft.proofs.Adding.{RamsLeft}
use Rattle.net_draft.proofs.cells.push_rams.Given as goal

abbrev pub invariant-loop-rest : goal.invariant-loop-rest
invariant-loop-rest l = RamsLeft l.lib l.inverses l.fn.rams l.initial.cells.items l.rest l.cells.items

abbrev pub decreases-loop-rest : goal.decreases-loop-rest
decreases-loop-rest l = length l.rest
