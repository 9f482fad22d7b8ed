use Rattle.std.proofs.Common.{length}
use Rattle.plan_search.proofs.opening.+in_some_group.Given as goal

abbrev pub decreases-in_some_group : goal.decreases-in_some_group
decreases-in_some_group l = length l.kinds.now
