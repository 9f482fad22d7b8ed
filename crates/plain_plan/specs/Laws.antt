-- What holds of the plans: they are the chosen ones in the words of the list, and they are plain.
use Rattle.std.specs.Prelude.{◌≡◌, ℕ, true, ◌↔◌, List, Some}
use Rattle.lib_core.specs.declared.library.Library.{Library}
use Rattle.net_core.specs.declared.mems.MemJob.{MemJob}
use Rattle.net_core.specs.declared.mems.Style.{Style}
use Rattle.net_core.specs.declared.modules.Design.{Design}
use Rattle.geom_core.specs.declared.candidates.Candidate.{Candidate}
use Rattle.fit_rules.specs.declared.plans.Plan.{Plan}
use Rattle.fit_rules.specs.Candidates.{candidates}
use Rattle.fit_rules.specs.Fits.{candidate_fits}
use Rattle.fit_cost.specs.Points.{points_of}
use Rattle.plan_search.specs.Chosen.{IsChoice}
use Rattle.ram_emit.specs.Plain.{IsPlainCandidate}
use Rattle.plain_plan.specs.declared.planning.Planned.TheVariants.{Plans}
use Rattle.plain_plan.specs.Chosen.{plain_score, least_plain}
use Rattle.plain_plan.specs.Planned.{planned, mems_of, ArePlain}

-- the candidate is plain and fits with the style, and has so many points
pub record PlainFit (job : MemJob) (lib : Library) (style : Style) (c : Candidate) (n : ℕ) : Type 0 where
  pub plain : IsPlainCandidate lib job c
  pub fits : candidate_fits job lib style c ≡ true
  pub points : points_of job lib c ≡ n

-- The law: exactly the candidates that are plain and fit have points.
abbrev pub ScoredIsPlain : Type 0
ScoredIsPlain = (job : MemJob) (lib : Library) (style : Style) (c : Candidate) (points : ℕ) → (plain_score job lib style c ≡ Some points) ↔ PlainFit job lib style c points

-- The law: the least is such a candidate of the list, each earlier one has more points and each later one as many; and there
-- is none exactly where the list has none.
abbrev pub LeastIsChosen : Type 0
LeastIsChosen = (job : MemJob) (lib : Library) (style : Style) → IsChoice (plain_score job lib style) (candidates job.mem lib) (least_plain job lib style)

-- The law: each of the plans of a design is plain for its memory.
abbrev pub PlannedArePlain : Type 0
PlannedArePlain = (lib : Library) (d : Design) (plans : List Plan) → planned lib d ≡ Plans plans → ArePlain lib (mems_of d.modules) plans
