use Rattle.std.proofs.Common.{◌≡◌}
use Rattle.std.specs.Prelude.{fold}
use Rattle.fit_rules.specs.Candidates.{below}
use Rattle.plain_plan.specs.Chosen.{plain_score}
use Rattle.plain_plan.specs.Steps.{at_read_group}
use Rattle.plain_plan.proofs.choosing.try_read_groups.Given as goal

abbrev pub invariant-loop-place : goal.invariant-loop-place
invariant-loop-place l = l.best ≡ fold (at_read_group (plain_score l.search.job.now l.search.lib.now l.search.style.now) l.ram l.at l.group) l.initial.best (below l.place)
