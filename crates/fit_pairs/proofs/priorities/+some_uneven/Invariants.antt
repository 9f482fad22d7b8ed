use Rattle.std.proofs.Common.{length}
use Rattle.fit_pairs.proofs.priorities.+some_uneven.Given as goal

abbrev pub decreases-some_uneven : goal.decreases-some_uneven
decreases-some_uneven l = length l.writes.now
