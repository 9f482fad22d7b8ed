use Rattle.std.proofs.Common.{◌≡◌, ◌≤◌, ◌+◌, ◌++◌, length}
use Rattle.trace_text.specs.Trace.{events_text}
use Rattle.trace_text.proofs.print.push_events.Given as goal

abbrev pub invariant-loop-rest : goal.invariant-loop-rest
invariant-loop-rest l = record {
  so_far : l.text.items ++ events_text l.rows l.event l.rest ≡ l.initial.text.items ++ events_text l.rows 0 l.run;
  fits : l.event + length l.rest ≤ length l.run;
}

abbrev pub decreases-loop-rest : goal.decreases-loop-rest
decreases-loop-rest l = length l.rest
