use Rattle.std.proofs.Common.{length}
use Rattle.fit_cost.proofs.places.+reads_points.Given as goal

abbrev pub decreases-reads_points : goal.decreases-reads_points
decreases-reads_points l = length l.reads.now
