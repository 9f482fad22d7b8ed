use Rattle.std.proofs.Common.{arith}
use Rattle.plan_search.proofs.Cuts.{walk_cut_reads}
use Rattle.plan_search.proofs.Walked.{walk_next_at}
use Rattle.plan_search.specs.Steps.{at_reads}
use Rattle.plan_search.proofs.reading.+reads.Goals as goal

pub search_reads-returns-then-cuts_reads-clause-best : goal.search_reads-returns-then-cuts_reads-clause-best
search_reads-returns-then-cuts_reads-clause-best t c = walk_cut_reads c.args.site.now.job.now c.args.site.now.variant.now c.args.site.now.spot c.args.groups.now c.args.so_far.now.items c.args.best c.args.choices.now (cc)

pub search_reads-returns-in-len1-up-clause-best : goal.search_reads-returns-in-len1-up-clause-best
search_reads-returns-in-len1-up-clause-best t c =
    rw (walk_next_at (at_reads c.args.site.now.job.now c.args.site.now.variant.now c.args.site.now.spot c.args.groups.now) c.args.best c.args.so_far.now.items c.args.choices.now c.places-item.result (omega arith) c.places-item.is, ← c.as_slice-in-len1-up.ensures) c.search_places.ensures.best
