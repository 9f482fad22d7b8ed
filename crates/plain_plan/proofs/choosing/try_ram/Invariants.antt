use Rattle.std.proofs.Common.{◌≡◌, take}
use Rattle.plan_search.specs.Rams.{fold_at}
use Rattle.plain_plan.specs.Chosen.{plain_score}
use Rattle.plain_plan.specs.Steps.{at_variant}
use Rattle.plain_plan.proofs.choosing.try_ram.Given as goal

abbrev pub invariant-loop-at : goal.invariant-loop-at
invariant-loop-at l = l.best ≡ fold_at (at_variant (plain_score l.search.job.now l.search.lib.now l.search.style.now) l.search.job.now.mem l.search.read.now l.ram) l.initial.best 0 (take l.at l.kind.variants)
