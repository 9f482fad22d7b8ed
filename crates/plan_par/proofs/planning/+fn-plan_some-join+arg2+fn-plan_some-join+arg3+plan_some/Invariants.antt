use Rattle.std.proofs.Common.{length}
use Rattle.plan_par.proofs.planning.+fn-plan_some-join+arg2+fn-plan_some-join+arg3+plan_some.Given as goal

abbrev pub decreases-join+arg2 : goal.decreases-join+arg2
decreases-join+arg2 g l = length l.front.now

abbrev pub decreases-join+arg3 : goal.decreases-join+arg3
decreases-join+arg3 g l = length l.back.now

abbrev pub decreases-plan_some : goal.decreases-plan_some
decreases-plan_some g l = length l.jobs.now
