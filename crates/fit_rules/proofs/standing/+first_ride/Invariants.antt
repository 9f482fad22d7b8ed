use Rattle.std.proofs.Common.{length}
use Rattle.fit_rules.proofs.standing.+first_ride.Given as goal

abbrev pub decreases-first_ride : goal.decreases-first_ride
decreases-first_ride l = length l.writes.now
