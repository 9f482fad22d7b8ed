use Rattle.std.proofs.Common.{◌≡◌, ◌+◌, ◌*◌, drop, length}
use Rattle.plan_search.specs.Walks.{branches}
use Rattle.plan_search.specs.Steps.{at_reads}
use Rattle.plan_search.proofs.reading.+reads.Given as goal

abbrev pub invariant-search_places-loop-place : goal.invariant-search_places-loop-place
invariant-search_places-loop-place l = (l.so_far.items ≡ l.fn.so_far.items) × (branches (at_reads l.site.job.now l.site.variant.now l.site.spot l.groups) l.best l.fn.so_far.items (drop l.place-index l.places) l.rest ≡ branches (at_reads l.site.job.now l.site.variant.now l.site.spot l.groups) l.fn.best l.fn.so_far.items l.places l.rest)

abbrev pub decreases-search_reads : goal.decreases-search_reads
decreases-search_reads l = 2 * length l.choices.now

abbrev pub decreases-search_places : goal.decreases-search_places
decreases-search_places l = 2 * length l.rest.now + 1
