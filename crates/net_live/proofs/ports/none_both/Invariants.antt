use Rattle.std.proofs.Common.{◌≡◌, length}
use Rattle.net_live.specs.Fitting as fitting
use Rattle.net_live.proofs.ports.none_both.Given as goal

abbrev pub invariant-loop-ones : goal.invariant-loop-ones
invariant-loop-ones l = fitting.none_both l.ones l.others ≡ fitting.none_both l.left l.right

abbrev pub decreases-loop-ones : goal.decreases-loop-ones
decreases-loop-ones l = length l.ones
