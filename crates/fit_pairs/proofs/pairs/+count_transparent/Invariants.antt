use Rattle.std.proofs.Common.{length}
use Rattle.fit_pairs.proofs.pairs.+count_transparent.Given as goal

abbrev pub decreases-count_transparent : goal.decreases-count_transparent
decreases-count_transparent l = length l.writes.now
