use Rattle.std.proofs.Common.{◌≡◌, ◌++◌, length}
use Rattle.net_draft.specs.Homes as spec
use Rattle.net_draft.proofs.homes.others.Given as goal

abbrev pub invariant-loop-rest : goal.invariant-loop-rest
invariant-loop-rest l = l.nets.items ++ spec.others l.homes l.net l.rest ≡ spec.others l.homes 0 l.fn.marks

abbrev pub decreases-loop-rest : goal.decreases-loop-rest
decreases-loop-rest l = length l.rest
