use Rattle.std.proofs.Common.{length}
use Rattle.plan_search.proofs.cutting.+writes_front.Given as goal

abbrev pub decreases-writes_front : goal.decreases-writes_front
decreases-writes_front l = length l.groups.now
