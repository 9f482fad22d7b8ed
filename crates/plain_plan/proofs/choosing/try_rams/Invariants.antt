use Rattle.std.proofs.Common.{◌≡◌, take}
use Rattle.std.specs.Prelude.{None}
use Rattle.plan_search.specs.Rams.{fold_at}
use Rattle.plain_plan.specs.Chosen.{plain_score}
use Rattle.plain_plan.specs.Steps.{at_ram}
use Rattle.plain_plan.proofs.choosing.try_rams.Given as goal

abbrev pub invariant-loop-ram : goal.invariant-loop-ram
invariant-loop-ram l = l.best ≡ fold_at (at_ram (plain_score l.search.job.now l.search.lib.now l.search.style.now) l.search.job.now.mem l.search.read.now) None 0 (take l.ram l.search.lib.now.rams)
