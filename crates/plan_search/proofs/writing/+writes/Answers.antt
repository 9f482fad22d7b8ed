use Rattle.std.proofs.Common.{arith}
use Rattle.plan_search.proofs.Cuts.{walk_cut_writes}
use Rattle.plan_search.proofs.Walked.{walk_next_at}
use Rattle.plan_search.specs.Steps.{at_groups}
use Rattle.plan_search.proofs.writing.+writes.Goals as goal

pub search_writes-returns-then-cuts_writes-clause-best : goal.search_writes-returns-then-cuts_writes-clause-best
search_writes-returns-then-cuts_writes-clause-best t c = walk_cut_writes c.args.site.now.job.now c.args.site.now.variant.now c.args.site.now.spot c.args.so_far.now.items c.args.best c.args.choices.now (cc)

pub search_writes-returns-in-len1-up-clause-best : goal.search_writes-returns-in-len1-up-clause-best
search_writes-returns-in-len1-up-clause-best t c =
    rw (walk_next_at (at_groups c.args.site.now.job.now c.args.site.now.variant.now c.args.site.now.spot) c.args.best c.args.so_far.now.items c.args.choices.now c.groups-item.result (omega arith) c.groups-item.is, ← c.as_slice-in-len1-up.ensures) c.search_each.ensures.best
