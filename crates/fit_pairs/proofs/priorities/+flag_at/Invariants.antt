use Rattle.std.proofs.Common.{length}
use Rattle.fit_pairs.proofs.priorities.+flag_at.Given as goal

abbrev pub decreases-flag_at : goal.decreases-flag_at
decreases-flag_at l = length l.flags.now
