use Rattle.std.proofs.Common.{length}
use Rattle.plain_plan.proofs.Gathered.{GatheredBy}
use Rattle.plain_plan.proofs.planning.plans_of.Given as goal

abbrev pub invariant-loop-rest : goal.invariant-loop-rest
invariant-loop-rest l = GatheredBy l.lib l.design l.plans l.rest

abbrev pub decreases-loop-rest : goal.decreases-loop-rest
decreases-loop-rest l = length l.rest
