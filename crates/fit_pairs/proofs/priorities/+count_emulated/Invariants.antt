use Rattle.std.proofs.Common.{length}
use Rattle.fit_pairs.proofs.priorities.+count_emulated.Given as goal

abbrev pub decreases-count_emulated : goal.decreases-count_emulated
decreases-count_emulated l = length l.writes.now
