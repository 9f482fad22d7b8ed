use Rattle.std.proofs.Common.{length}
use Rattle.net_draft.proofs.Joining.{Completes}
use Rattle.net_draft.proofs.drafting.drafts.Given as goal

abbrev pub invariant-loop-rest : goal.invariant-loop-rest
invariant-loop-rest l = Completes l.lib l.fn.modules l.rest l.written.items

abbrev pub decreases-loop-rest : goal.decreases-loop-rest
decreases-loop-rest l = length l.rest
