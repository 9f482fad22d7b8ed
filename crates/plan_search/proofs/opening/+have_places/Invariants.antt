use Rattle.std.proofs.Common.{length}
use Rattle.plan_search.proofs.opening.+have_places.Given as goal

abbrev pub decreases-have_places : goal.decreases-have_places
decreases-have_places l = length l.reads.now
