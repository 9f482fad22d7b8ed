-- What the calls on plans ask for, of a sound design and the plans of its memories.
use Rattle.std.proofs.Common.{◌≡◌, ℕ, zero, suc, List, [], ◌∷◌, ◌++◌, Some, slice_get, refl, subst}
use Rattle.std.specs.List.{flat_map}
use Rattle.std.proofs.lemmas.Option.{none-some}
use Rattle.lib_core.specs.declared.library.Library.{Library}
use Rattle.net_core.specs.declared.mems.Mem.{Mem}
use Rattle.net_core.specs.declared.modules.Design.{Design}
use Rattle.net_core.specs.declared.modules.Module.{Module}
use Rattle.net_core.specs.Valid.{Each, MemFits}
use Rattle.geom_core.specs.declared.candidates.Candidate.{Candidate}
use Rattle.geom_core.specs.declared.candidates.Candidate.TheVariants.{Ram, Registers}
use Rattle.fit_rules.specs.declared.plans.Plan.{Plan}
use Rattle.fit_rules.specs.Limits.{LibraryLimits, ValidIsWithin}
use Rattle.net_live.specs.Sound.{IsSoundDesign}
use Rattle.plain_plan.specs.Laws.{PlannedArePlain}
use Rattle.plain_plan.specs.Planned.{CanPlan, ArePlain, job_of, mems_of}
use Rattle.plan_report.specs.Report.{IsFitting, PlansFit}
use Rattle.ram_emit.specs.Plain.{IsPlainCandidate}
use Rattle.map_flow.specs.Maps.{HasPlans}

some_same : {X : Type 0} (x y : X) → Some x ≡ Some y → x ≡ y
some_same x y e = cc

pub can_plan : (lib : Library) (d : Design) → LibraryLimits lib → IsSoundDesign lib d → CanPlan lib d.modules
can_plan lib d limits sound = record { limits = limits; fits = λ i m at. (sound i m at).mems }

each_both : {X : Type 0} (P : X → Type 0) (xs ys : List X) → Each xs P → Each ys P → Each (xs ++ ys) P
each_both P [] ys f g i x h = g i x h
each_both P (y ∷ xs) ys f g zero x h = subst P (some_same y x h) (f 0 y refl)
each_both P (y ∷ xs) ys f g (suc i) x h = each_both P xs ys (λ k z at. f (suc k) z at) g i x h

each_mem : (P : Mem → Type 0) (ms : List Module) → Each ms (λ m. Each m.mems P) → Each (mems_of ms) P
each_mem P [] f i x h = absurd (none-some x h)
each_mem P (m ∷ ms) f i x h = each_both P m.mems (mems_of ms) (f 0 m refl) (each_mem P ms (λ k n at. f (suc k) n at)) i x h

fitting : ValidIsWithin → (lib : Library) (x : Mem) (c : Candidate) → MemFits x → IsPlainCandidate lib (job_of x) c → IsFitting lib x c
fitting within lib x Registers fits plain = absurd plain
fitting within lib x (Ram c) fits plain = record { quiet = []; limits = within x fits; fits = plain.fits }

all_fit : ValidIsWithin → (lib : Library) (xs : List Mem) (ps : List Plan) → Each xs MemFits → ArePlain lib xs ps → PlansFit lib xs ps
all_fit within lib [] ps fits plain = tt
all_fit within lib (x ∷ xs) [] fits plain = tt
all_fit within lib (x ∷ xs) (p ∷ ps) fits plain = (fitting within lib x p.candidate (fits 0 x refl) plain.0, all_fit within lib xs ps (λ i y at. fits (suc i) y at) plain.1)

pub plans_fit : ValidIsWithin → PlannedArePlain → (lib : Library) (d : Design) (plans : List Plan) → IsSoundDesign lib d → HasPlans lib d plans → PlansFit lib (mems_of d.modules) plans
plans_fit within plain lib d plans sound has =
    all_fit within lib (mems_of d.modules) plans (each_mem MemFits d.modules (λ i m at. (sound i m at).mems)) (plain lib d plans has.are)
