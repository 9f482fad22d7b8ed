-- Which candidate is chosen, said of the whole list and of no search; and that this is the best of the list.
use Rattle.std.specs.Prelude.{◌≡◌, ℕ, ◌+◌, ◌≤◌, Option, Some, None, List, [], ◌∷◌, ◌++◌}
use Rattle.lib_core.specs.declared.library.Library.{Library}
use Rattle.net_core.specs.declared.mems.MemJob.{MemJob}
use Rattle.net_core.specs.declared.mems.Style.{Style}
use Rattle.geom_core.specs.declared.candidates.Candidate.{Candidate}
use Rattle.fit_rules.specs.declared.plans.Plan.{Plan}
use Rattle.fit_rules.specs.Candidates.{candidates}
use Rattle.fit_cost.specs.Points.{score}
use Rattle.plan_search.specs.Choice.{best_of}

-- holds of each item
abbrev pub Each : {A : Type 0} → (A → Type 0) → List A → Type 0
Each P [] = Unit {0}
Each P (x ∷ xs) = P x × Each P xs

-- it does not fit, or has at least so many points
abbrev pub HasAtLeast : ℕ → Option ℕ → Type 0
HasAtLeast least None = Unit {0}
HasAtLeast least (Some points) = least ≤ points

-- The plan is a candidate of the list that fits, with its points. Each earlier candidate that fits has more points, and each
-- later one has at least as many.
pub record Chosen (score : Candidate → Option ℕ) (all : List Candidate) (plan : Plan) : Type 0 where
  pub before : List Candidate
  pub after : List Candidate
  pub there : all ≡ before ++ plan.candidate ∷ after
  pub fits : score plan.candidate ≡ Some plan.points
  pub earlier_cost_more : Each (λ c. HasAtLeast (plan.points + 1) (score c)) before
  pub later_cost_as_much : Each (λ c. HasAtLeast plan.points (score c)) after

-- no candidate of the list fits
abbrev pub NoneFits : (Candidate → Option ℕ) → List Candidate → Type 0
NoneFits score all = Each (λ c. score c ≡ None) all

-- nothing fits, or the plan is the chosen one
abbrev pub IsChoice : (Candidate → Option ℕ) → List Candidate → Option Plan → Type 0
IsChoice score all None = NoneFits score all
IsChoice score all (Some plan) = Chosen score all plan

-- the best of the candidates of a memory
abbrev pub best_plan : MemJob → Library → Style → Option Plan
best_plan job lib style = best_of (score job lib style) (candidates job.mem lib)

abbrev pub IsChoiceOf : MemJob → Library → Style → Option Plan → Type 0
IsChoiceOf job lib style plan = IsChoice (score job lib style) (candidates job.mem lib) plan

-- the best is the chosen plan, and is none exactly where no candidate fits
abbrev pub BestIsChosen : Type 0
BestIsChosen = (job : MemJob) (lib : Library) (style : Style) → IsChoiceOf job lib style (best_plan job lib style)

-- there is one choice alone
abbrev pub ChosenIsBest : Type 0
ChosenIsBest = (job : MemJob) (lib : Library) (style : Style) (plan : Option Plan) → IsChoiceOf job lib style plan → plan ≡ best_plan job lib style
