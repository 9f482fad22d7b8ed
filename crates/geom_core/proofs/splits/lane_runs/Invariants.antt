use Rattle.std.proofs.Common.{◌≡◌, ◌+◌, ◌≤◌, drop}
use Rattle.geom_core.specs.Runs.{runs_after, runs_of}
use Rattle.geom_core.proofs.splits.lane_runs.Given as goal

abbrev pub invariant-loop-bit : goal.invariant-loop-bit
invariant-loop-bit l = (l.runs + runs_after l.last (drop l.bit-index l.port.en) ≡ runs_of l.port.en) × (l.runs ≤ l.bit-index)
