use Rattle.std.proofs.Common.{◌≡◌, ◌≤◌, length}
use Rattle.net_same.specs.Same.{without_starts}
use Rattle.net_same.proofs.wires.past_starts.Given as goal

abbrev pub invariant-loop-rest : goal.invariant-loop-rest
invariant-loop-rest l = record {
  same : without_starts l.rest ≡ without_starts l.attrs;
  shorter : length l.rest ≤ length l.attrs;
}

abbrev pub decreases-loop-rest : goal.decreases-loop-rest
decreases-loop-rest l = length l.rest
