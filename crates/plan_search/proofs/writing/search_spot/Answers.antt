use Rattle.std.proofs.Common.{sym, ◌∙◌}
use Rattle.plan_search.proofs.Closed.{cannot_stand}
use Rattle.plan_search.proofs.Fewest.{cannot_win}
use Rattle.plan_search.proofs.writing.search_spot.Goals as goal

pub returns-then-not-may_win : goal.returns-then-not-may_win
returns-then-not-may_win c = cannot_win c.args.job.now c.args.variant.now c.args.spot c.args.best c.requires.limits c.requires.spot (cc)

pub returns-then-not-branch : goal.returns-then-not-branch
returns-then-not-branch c = cannot_stand c.args.job.now c.args.variant.now c.args.spot c.args.best (sym c.in_ok-is_open.ensures ∙ c.if-not-branch.true)
