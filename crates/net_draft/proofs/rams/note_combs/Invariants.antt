use Rattle.std.proofs.Common.{◌≡◌, length}
use Rattle.net_draft.specs.Rams as spec
use Rattle.net_draft.proofs.rams.note_combs.Given as goal

abbrev pub invariant-loop-rest : goal.invariant-loop-rest
invariant-loop-rest l = spec.note_combs l.inverses.items l.rest ≡ spec.note_combs l.initial.inverses.items l.fn.combs

abbrev pub decreases-loop-rest : goal.decreases-loop-rest
decreases-loop-rest l = length l.rest
