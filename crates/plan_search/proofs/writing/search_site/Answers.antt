use Rattle.plan_search.proofs.Cuts.{too_large, whole_spot}
use Rattle.plan_search.proofs.writing.search_site.Goals as goal

pub returns-then-not-is_small : goal.returns-then-not-is_small
returns-then-not-is_small c = too_large c.args.site.now.job.now c.args.site.now.variant.now c.args.site.now.spot c.args.best (cc)

pub returns : goal.returns
returns c = whole_spot c.args.site.now.job.now c.args.site.now.variant.now c.args.site.now.spot c.args.best c.new-so_far.result.items c.args.choices.now c.search_writes.result c.new-so_far.ensures.items c.requires.choices c.search_writes.ensures.best
