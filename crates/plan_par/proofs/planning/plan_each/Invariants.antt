use Rattle.std.proofs.Common.{◌≡◌, ◌+◌, map, take}
use Rattle.plan_par.specs.Plans.{plan_of}
use Rattle.plan_par.proofs.planning.plan_each.Given as goal

abbrev pub invariant-loop-job : goal.invariant-loop-job
invariant-loop-job g l = (l.index ≡ l.first + l.job-index) × (l.plans.items ≡ map (plan_of l.lib) (take l.job-index l.jobs))
