-- Which plain candidate a memory gets: of all its candidates that are plain and fit, one of least points, and of several the
-- first. This is said of the whole list of candidates, and of no search.
use Rattle.std.specs.Prelude.{ℕ, ◌&&◌, cond, Option, Some, None}
use Rattle.lib_core.specs.declared.library.Library.{Library}
use Rattle.net_core.specs.declared.mems.MemJob.{MemJob}
use Rattle.net_core.specs.declared.mems.Style.{Style}
use Rattle.geom_core.specs.declared.candidates.Candidate.{Candidate}
use Rattle.fit_rules.specs.declared.plans.Plan.{Plan}
use Rattle.fit_rules.specs.Candidates.{candidates}
use Rattle.fit_rules.specs.Fits.{candidate_fits}
use Rattle.fit_cost.specs.Points.{points_of}
use Rattle.plan_search.specs.Choice.{best_of}
use Rattle.ram_emit.specs.Judging.{is_plain}

-- the points of a candidate, where it is plain and fits with the style
abbrev pub plain_score : MemJob → Library → Style → Candidate → Option ℕ
plain_score job lib style c = cond (is_plain lib job c && candidate_fits job lib style c) (Some (points_of job lib c)) None

-- the best of all candidates by these points
abbrev pub least_plain : MemJob → Library → Style → Option Plan
least_plain job lib style = best_of (plain_score job lib style) (candidates job.mem lib)
