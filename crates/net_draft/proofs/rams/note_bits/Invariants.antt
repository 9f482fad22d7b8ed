use Rattle.std.proofs.Common.{◌≡◌, length}
use Rattle.net_draft.specs.Rams as spec
use Rattle.net_draft.proofs.rams.note_bits.Given as goal

abbrev pub invariant-loop-rest : goal.invariant-loop-rest
invariant-loop-rest l = spec.note_bits l.inverses.items l.rest l.left ≡ spec.note_bits l.initial.inverses.items l.fn.bits l.fn.nets

abbrev pub decreases-loop-rest : goal.decreases-loop-rest
decreases-loop-rest l = length l.rest
