use Rattle.std.proofs.Common.{length}
use Rattle.fit_rules.proofs.limits.+rams_within.Given as goal

abbrev pub decreases-rams_within : goal.decreases-rams_within
decreases-rams_within l = length l.rams.now
