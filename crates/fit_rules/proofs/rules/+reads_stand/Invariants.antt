use Rattle.std.proofs.Common.{length}
use Rattle.fit_rules.proofs.rules.+reads_stand.Given as goal

abbrev pub decreases-reads_stand : goal.decreases-reads_stand
decreases-reads_stand l = length l.reads.now
