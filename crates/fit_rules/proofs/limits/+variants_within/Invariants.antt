use Rattle.std.proofs.Common.{length}
use Rattle.fit_rules.proofs.limits.+variants_within.Given as goal

abbrev pub decreases-variants_within : goal.decreases-variants_within
decreases-variants_within l = length l.variants.now
