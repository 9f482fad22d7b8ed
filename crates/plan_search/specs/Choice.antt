-- The best of a list of candidates: one of least points among those that fit, and of several the first.
use Rattle.std.specs.Prelude.{ℕ, Bool, true, cond, nat_lt, Option, Some, None, List, fold}
use Rattle.geom_core.specs.declared.candidates.Candidate.{Candidate}
use Rattle.fit_rules.specs.declared.plans.Plan.{Plan}

-- so many points are fewer than those of the best so far
abbrev pub beats : ℕ → Option Plan → Bool
beats points None = true
beats points (Some best) = nat_lt points best.points

-- A candidate takes over only where it has fewer points than the best so far: of equal ones the earlier stays.
abbrev pub better : Option Plan → Candidate → ℕ → Option Plan
better best c points = cond (beats points best) (Some (record { candidate = c; points = points })) best

-- the best after a candidate, whose points are there where it fits
abbrev pub offer : Option Plan → Candidate → Option ℕ → Option Plan
offer best c None = best
offer best c (Some points) = better best c points

abbrev pub keep : (Candidate → Option ℕ) → Option Plan → Candidate → Option Plan
keep score best c = offer best c (score c)

-- the best of a list
abbrev pub best_of : (Candidate → Option ℕ) → List Candidate → Option Plan
best_of score all = fold (keep score) None all
