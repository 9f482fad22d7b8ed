use Rattle.std.proofs.Common.{length}
use Rattle.fit_rules.proofs.rules.+writes_stand.Given as goal

abbrev pub decreases-writes_stand : goal.decreases-writes_stand
decreases-writes_stand l = length l.writes.now
