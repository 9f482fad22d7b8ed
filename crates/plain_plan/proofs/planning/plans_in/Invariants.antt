use Rattle.std.proofs.Common.{length}
use Rattle.plain_plan.proofs.Gathered.{GatheredIn}
use Rattle.plain_plan.proofs.planning.plans_in.Given as goal

abbrev pub invariant-loop-rest : goal.invariant-loop-rest
invariant-loop-rest l = GatheredIn l.lib l.module l.fn.plans l.plans l.rest

abbrev pub decreases-loop-rest : goal.decreases-loop-rest
decreases-loop-rest l = length l.rest
