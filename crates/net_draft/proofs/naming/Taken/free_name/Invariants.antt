use Rattle.net_draft.specs.Naming as spec
use Rattle.net_draft.proofs.naming.Taken.free_name.Given as goal

abbrev pub invariant-loop-name : goal.invariant-loop-name
invariant-loop-name l = spec.IsLonger l.fn.wanted l.name

abbrev pub decreases-loop-name : goal.decreases-loop-name
decreases-loop-name l = l.left
