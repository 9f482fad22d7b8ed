use Rattle.std.proofs.Common.{length}
use Rattle.fit_rules.proofs.sizes.+largest.Given as goal

abbrev pub decreases-largest : goal.decreases-largest
decreases-largest l = length l.widths.now
