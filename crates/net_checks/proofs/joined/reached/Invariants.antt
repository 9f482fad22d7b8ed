use Rattle.net_checks.specs.Joined.{AreReached}
use Rattle.net_checks.proofs.joined.reached.Given as goal

abbrev pub invariant-loop-place : goal.invariant-loop-place
invariant-loop-place l = AreReached l.marks l.ends l.place l.found.items
