use Rattle.std.proofs.Common.{length}
use Rattle.fit_rules.proofs.rules.+all_lanes.Given as goal

abbrev pub decreases-all_lanes : goal.decreases-all_lanes
decreases-all_lanes l = length l.writes.now
