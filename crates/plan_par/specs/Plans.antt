-- The plans of a list of jobs.
use Rattle.std.specs.Prelude.{ℕ, Bool, Option, List, ◌≤◌, ◌<◌, ◌+◌, ◌^◌, length}
use Rattle.lib_core.specs.declared.library.Library.{Library}
use Rattle.net_core.specs.declared.mems.MemJob.{MemJob}
use Rattle.net_core.specs.Style.{style_of_mem}
use Rattle.net_core.specs.Valid.{Each}
use Rattle.fit_rules.specs.declared.plans.Plan.{Plan}
use Rattle.fit_rules.specs.Judging.{mem_within}
use Rattle.fit_rules.specs.Limits.{Limits}
use Rattle.plan_search.specs.Chosen.{best_plan}

-- the best plan of a job, by what its memory asks for
abbrev pub plan_of : Library → MemJob → Option Plan
plan_of lib job = best_plan job lib (style_of_mem job.mem)

-- each job is within the limits of the search
pub record AreWithin (jobs : List MemJob) (lib : Library) : Type 0 where
  pub each : Each jobs (λ job. Limits job lib)

-- the memory of a job is within its limits, as a test
abbrev pub job_within : MemJob → Bool
job_within job = mem_within job.mem

-- what the planning of some jobs asks for, the first of which has a number
pub record Part (workers first : ℕ) (jobs : List MemJob) (lib : Library) : Type 0 where
  pub some : 1 ≤ workers
  pub within : AreWithin jobs lib
  pub room : first + length jobs < 2 ^ 64
