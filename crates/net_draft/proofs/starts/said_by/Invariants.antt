use Rattle.std.proofs.Common.{◌≡◌, replicate, length}
use Rattle.lib_core.specs.declared.library.Tri.TheVariants.{Any}
use Rattle.net_draft.specs.Starts as spec
use Rattle.net_draft.proofs.starts.said_by.Given as goal

abbrev pub invariant-loop-rest : goal.invariant-loop-rest
invariant-loop-rest l = spec.said_by l.said.items l.rest ≡ spec.said_by (replicate l.width Any) l.fn.attrs

abbrev pub decreases-loop-rest : goal.decreases-loop-rest
decreases-loop-rest l = length l.rest
