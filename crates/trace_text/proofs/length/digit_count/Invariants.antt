use Rattle.std.proofs.Common.{◌≡◌, ◌≤◌, ◌+◌, length, decimal}
use Rattle.trace_text.proofs.length.digit_count.Given as goal

abbrev pub invariant-loop-rest : goal.invariant-loop-rest
invariant-loop-rest l = record {
  so_far : l.count + length (decimal l.rest) ≡ 1 + length (decimal l.number);
  low : l.rest ≤ l.number;
}

abbrev pub decreases-loop-rest : goal.decreases-loop-rest
decreases-loop-rest l = l.rest
