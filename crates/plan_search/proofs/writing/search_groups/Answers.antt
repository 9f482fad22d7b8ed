use Rattle.plan_search.proofs.Cuts.{cannot_write}
use Rattle.plan_search.proofs.writing.search_groups.Goals as goal

pub returns-then-not-may_write : goal.returns-then-not-may_write
returns-then-not-may_write c = cannot_write c.args.site.now.job.now c.args.site.now.variant.now c.args.site.now.spot c.args.groups.now c.args.best (cc)
