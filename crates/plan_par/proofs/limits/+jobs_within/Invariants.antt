use Rattle.std.proofs.Common.{length}
use Rattle.plan_par.proofs.limits.+jobs_within.Given as goal

abbrev pub decreases-jobs_within : goal.decreases-jobs_within
decreases-jobs_within l = length l.jobs.now
