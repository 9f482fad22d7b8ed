use Rattle.std.proofs.Common.{◌≡◌, ◌+◌, ◌*◌, drop, length}
use Rattle.plan_search.specs.Walks.{branches}
use Rattle.plan_search.specs.Openings.{or_opens}
use Rattle.plan_search.proofs.opening.+openings.Given as goal

abbrev pub invariant-opens_with_each-loop-group : goal.invariant-opens_with_each-loop-group
invariant-opens_with_each-loop-group l = (l.so_far.items ≡ l.fn.so_far.items) × (branches (or_opens l.mem l.variant l.spot) l.opened l.fn.so_far.items (drop l.group-index l.groups) l.rest ≡ branches (or_opens l.mem l.variant l.spot) l.fn.before l.fn.so_far.items l.groups l.rest)

abbrev pub decreases-opens_after : goal.decreases-opens_after
decreases-opens_after l = 2 * length l.choices.now

abbrev pub decreases-opens_with_each : goal.decreases-opens_with_each
decreases-opens_with_each l = 2 * length l.rest.now + 1
