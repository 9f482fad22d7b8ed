use Rattle.std.proofs.Common.{arith}
use Rattle.plan_search.proofs.Closed.{walk_opened}
use Rattle.plan_search.proofs.Walked.{walk_next_at}
use Rattle.plan_search.specs.Openings.{or_opens}
use Rattle.plan_search.proofs.opening.+openings.Goals as goal

pub opens_after-returns-then-before-clause-opened : goal.opens_after-returns-then-before-clause-opened
opens_after-returns-then-before-clause-opened t c = walk_opened c.args.mem.now c.args.variant.now c.args.spot c.args.so_far.now.items c.args.before c.args.choices.now c.if-before.true

pub opens_after-returns-in-len1-up-clause-opened : goal.opens_after-returns-in-len1-up-clause-opened
opens_after-returns-in-len1-up-clause-opened t c =
    rw (walk_next_at (or_opens c.args.mem.now c.args.variant.now c.args.spot) c.args.before c.args.so_far.now.items c.args.choices.now c.groups-item.result (omega arith) c.groups-item.is, ← c.as_slice-in-len1-up.ensures) c.opens_with_each.ensures.opened
