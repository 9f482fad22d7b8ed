use Rattle.std.proofs.Common.{◌≡◌, ◌≤◌, ◌+◌, ◌++◌, length}
use Rattle.trace_text.specs.Trace.{runs_text}
use Rattle.trace_text.proofs.print.push_runs.Given as goal

abbrev pub invariant-loop-rest : goal.invariant-loop-rest
invariant-loop-rest l = record {
  so_far : l.text.items ++ runs_text l.rows l.seed l.rest ≡ l.initial.text.items ++ runs_text l.rows 0 l.runs;
  fits : l.seed + length l.rest ≤ length l.runs;
}

abbrev pub decreases-loop-rest : goal.decreases-loop-rest
decreases-loop-rest l = length l.rest
