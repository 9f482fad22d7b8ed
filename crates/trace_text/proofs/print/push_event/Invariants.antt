use Rattle.std.proofs.Common.{◌≡◌, ◌++◌, length}
use Rattle.trace_text.specs.Trace.{event_text}
use Rattle.trace_text.proofs.print.push_event.Given as goal

abbrev pub invariant-loop-rest : goal.invariant-loop-rest
invariant-loop-rest l = l.text.items ++ event_text l.event l.rest l.left ≡ l.initial.text.items ++ event_text l.event l.rows l.bits

abbrev pub decreases-loop-rest : goal.decreases-loop-rest
decreases-loop-rest l = length l.rest
