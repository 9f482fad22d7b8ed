use Rattle.std.proofs.Common.{◌≡◌, ◌++◌, [], None, length}
use Rattle.net_draft.specs.Signals as spec
use Rattle.net_draft.proofs.signals.push_runs.Given as goal

abbrev pub invariant-loop-rest : goal.invariant-loop-rest
invariant-loop-rest l = l.parts.items ++ spec.runs_parts l.faces l.run.items l.before l.rest ≡ l.initial.parts.items ++ spec.runs_parts l.faces [] None l.fn.spots

abbrev pub decreases-loop-rest : goal.decreases-loop-rest
decreases-loop-rest l = length l.rest
