use Rattle.std.proofs.Common.{length}
use Rattle.fit_rules.proofs.limits.+widths_within.Given as goal

abbrev pub decreases-widths_within : goal.decreases-widths_within
decreases-widths_within l = length l.widths.now
