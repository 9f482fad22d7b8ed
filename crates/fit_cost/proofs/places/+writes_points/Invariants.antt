use Rattle.std.proofs.Common.{length}
use Rattle.fit_cost.proofs.places.+writes_points.Given as goal

abbrev pub decreases-writes_points : goal.decreases-writes_points
decreases-writes_points l = length l.writes.now
