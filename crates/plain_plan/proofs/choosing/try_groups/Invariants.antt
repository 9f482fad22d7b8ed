use Rattle.std.proofs.Common.{◌≡◌}
use Rattle.std.specs.Prelude.{fold}
use Rattle.fit_rules.specs.Candidates.{below}
use Rattle.plain_plan.specs.Chosen.{plain_score}
use Rattle.plain_plan.specs.Steps.{at_group}
use Rattle.plain_plan.proofs.choosing.try_groups.Given as goal

abbrev pub invariant-loop-group : goal.invariant-loop-group
invariant-loop-group l = l.best ≡ fold (at_group (plain_score l.search.job.now l.search.lib.now l.search.style.now) l.search.job.now.mem l.search.read.now l.variant l.ram l.at) l.initial.best (below l.group)
