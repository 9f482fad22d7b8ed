use Rattle.std.proofs.Common.{◌≡◌, ◌+◌, ◌*◌, drop, length}
use Rattle.plan_search.specs.Walks.{branches}
use Rattle.plan_search.specs.Steps.{at_groups}
use Rattle.plan_search.proofs.writing.+writes.Given as goal

abbrev pub invariant-search_each-loop-group : goal.invariant-search_each-loop-group
invariant-search_each-loop-group l = (l.so_far.items ≡ l.fn.so_far.items) × (branches (at_groups l.site.job.now l.site.variant.now l.site.spot) l.best l.fn.so_far.items (drop l.group-index l.groups) l.rest ≡ branches (at_groups l.site.job.now l.site.variant.now l.site.spot) l.fn.best l.fn.so_far.items l.groups l.rest)

abbrev pub decreases-search_writes : goal.decreases-search_writes
decreases-search_writes l = 2 * length l.choices.now

abbrev pub decreases-search_each : goal.decreases-search_each
decreases-search_each l = 2 * length l.rest.now + 1
