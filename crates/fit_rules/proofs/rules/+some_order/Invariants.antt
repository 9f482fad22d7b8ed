use Rattle.std.proofs.Common.{length}
use Rattle.fit_rules.proofs.rules.+some_order.Given as goal

abbrev pub decreases-some_order : goal.decreases-some_order
decreases-some_order l = length l.reads.now
