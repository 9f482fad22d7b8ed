use Rattle.std.proofs.Common.{length}
use Rattle.fit_pairs.proofs.pairs.+some_making.Given as goal

abbrev pub decreases-some_making : goal.decreases-some_making
decreases-some_making l = length l.writes.now
