use Rattle.std.proofs.Common.{◌≡◌, ◌++◌, map, length}
use Rattle.net_draft.specs.Wires as spec
use Rattle.net_draft.proofs.wires.faces_of.Given as goal

abbrev pub invariant-loop-rest : goal.invariant-loop-rest
invariant-loop-rest l = l.faces.items ++ map (λ w. spec.face_of w) l.rest ≡ map (λ w. spec.face_of w) l.fn.wires

abbrev pub decreases-loop-rest : goal.decreases-loop-rest
decreases-loop-rest l = length l.rest
