use Rattle.std.proofs.Common.{length}
use Rattle.plan_search.proofs.cutting.+reads_front.Given as goal

abbrev pub decreases-reads_front : goal.decreases-reads_front
decreases-reads_front l = length l.places.now
