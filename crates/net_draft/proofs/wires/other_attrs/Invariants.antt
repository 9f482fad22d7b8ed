use Rattle.std.proofs.Common.{◌≡◌, ◌++◌, length}
use Rattle.net_draft.specs.Wires as spec
use Rattle.net_draft.proofs.wires.other_attrs.Given as goal

abbrev pub invariant-loop-rest : goal.invariant-loop-rest
invariant-loop-rest l = l.list.items ++ spec.other_attrs l.rest ≡ spec.other_attrs l.fn.attrs

abbrev pub decreases-loop-rest : goal.decreases-loop-rest
decreases-loop-rest l = length l.rest
