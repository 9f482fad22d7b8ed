use Rattle.std.proofs.Common.{length}
use Rattle.fit_rules.proofs.standing.+all_have_names.Given as goal

abbrev pub decreases-all_have_names : goal.decreases-all_have_names
decreases-all_have_names l = length l.groups.now
