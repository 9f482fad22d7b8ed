-- What is known of the variant of a choice that fits a memory.
use Rattle.std.proofs.Common.{◌≡◌, true, ℕ, suc, ◌-◌, ◌≤◌, List, [], ◌∷◌, ◌++◌, length, take, drop, get_or, append_assoc, sym, ap, ◌∙◌, subst, arith}
use Rattle.std.specs.Prelude.{Some}
use Rattle.std.proofs.Math.Seq.{take-length}
use Rattle.lib_core.specs.declared.library.Library.{Library}
use Rattle.lib_core.specs.declared.library.Variant.{Variant}
use Rattle.net_core.specs.declared.mems.Mem.{Mem}
use Rattle.net_core.specs.declared.mems.MemJob.{MemJob}
use Rattle.net_core.specs.declared.mems.Style.TheVariants.{Auto}
use Rattle.net_core.specs.declared.modules.Module.{Module}
use Rattle.geom_core.specs.declared.candidates.Candidate.{Candidate}
use Rattle.geom_core.specs.declared.candidates.Candidate.TheVariants.{Ram}
use Rattle.geom_core.specs.declared.candidates.RamChoice.{RamChoice}
use Rattle.fit_rules.specs.Limits.{MemLimits, LibraryLimits, VariantLimits, IsSpot}
use Rattle.fit_rules.specs.Fits.{spot_of, variant_at, candidate_fits}
use Rattle.fit_rules.proofs.Chosen as chosen
use Rattle.fit_rules.specs.declared.plans.Plan.{Plan}
use Rattle.plan_report.specs.Report.{IsFitting, PlansFit, mems_of, mems_text, modules_text}

-- what fits with one list of quiet pairs fits
pub fitting_is : (lib : Library) (job : MemJob) (c : Candidate) → MemLimits job.mem → candidate_fits job lib Auto c ≡ true → IsFitting lib job.mem c
fitting_is lib job c limits fits = record { quiet = job.quiet; limits = limits; fits = fits }

pub variant_limits : (lib : Library) (ram n : ℕ) (v : Variant) → LibraryLimits lib → variant_at lib ram n ≡ Some v → VariantLimits v
variant_limits lib ram n v h e = chosen.variant_limits lib ram n v h e

pub spot_met : (lib : Library) (x : Mem) (c : RamChoice) (v : Variant) → IsFitting lib x (Ram c) → variant_at lib c.ram c.variant ≡ Some v → IsSpot v (spot_of c)
spot_met lib x c v fit e = chosen.spot_met (record { mem = x; quiet = fit.quiet }) lib c v fit.fits e

pub places_met : (lib : Library) (x : Mem) (c : RamChoice) (v : Variant) → IsFitting lib x (Ram c) → variant_at lib c.ram c.variant ≡ Some v → length c.reads ≤ 8
places_met lib x c v fit e = chosen.places_met (record { mem = x; quiet = fit.quiet }) lib c v fit.fits e

fits_front : (lib : Library) (xs ys : List Mem) (ps : List Plan) → PlansFit lib (xs ++ ys) ps → PlansFit lib xs ps
fits_front lib [] ys ps fit = tt
fits_front lib (x ∷ xs) ys [] fit = tt
fits_front lib (x ∷ xs) ys (p ∷ ps) fit = (fit.0, fits_front lib xs ys ps fit.1)

none_fit : (lib : Library) (xs : List Mem) → PlansFit lib xs []
none_fit lib [] = tt
none_fit lib (x ∷ xs) = tt

fits_rest : (lib : Library) (xs ys : List Mem) (ps : List Plan) → PlansFit lib (xs ++ ys) ps → PlansFit lib ys (drop (length xs) ps)
fits_rest lib [] ys ps fit = fit
fits_rest lib (x ∷ xs) ys [] fit = none_fit lib ys
fits_rest lib (x ∷ xs) ys (p ∷ ps) fit = fits_rest lib xs ys ps fit.1

-- the plans of the first of these modules, and those of the others
pub front_fits : (lib : Library) (m : Module) (ms : List Module) (ps : List Plan) → PlansFit lib (mems_of (m ∷ ms)) ps → PlansFit lib m.mems ps
front_fits lib m ms ps fit = fits_front lib m.mems (mems_of ms) ps fit

pub rest_fits : (lib : Library) (m : Module) (ms : List Module) (ps : List Plan) → PlansFit lib (mems_of (m ∷ ms)) ps → PlansFit lib (mems_of ms) (drop (length m.mems) ps)
rest_fits lib m ms ps fit = fits_rest lib m.mems (mems_of ms) ps fit

pub one_fits : (lib : Library) (d : List Module) (m : Module) (x : Mem) (p : Plan) → d ≡ m ∷ [] → m.mems ≡ x ∷ [] → IsFitting lib x p.candidate → PlansFit lib (mems_of d) (p ∷ [])
one_fits lib d m x p hd hm fit =
    let mems : mems_of d ≡ x ∷ [] = ap mems_of hd ∙ ap (λ xs. xs ++ []) hm in
    subst (λ xs. PlansFit lib xs (p ∷ [])) (sym mems) (fit, tt)

-- a list that is not empty is its first item and what is behind it
pub tail_is : (ms : List Module) (m : Module) → 1 ≤ length ms → m ≡ get_or ms 0 m → ms ≡ m ∷ take (length ms - 1) (drop 1 ms)
tail_is [] m some is = absurd (omega (arith, some))
tail_is (n ∷ ms) m some is =
    let e : suc (length ms) - 1 ≡ length ms = omega arith in
    let all : take (suc (length ms) - 1) ms ≡ ms = ap (λ k. take k ms) e ∙ take-length ms in
    λ i. sym is i ∷ sym all i

pub modules_step : (lib : Library) (ms tail : List Module) (m : Module) (left past : List Plan) (old new whole owner : List ℕ) (mems : List Mem) → ms ≡ m ∷ tail → owner ≡ m.name → mems ≡ m.mems → past ≡ drop (length mems) left → new ≡ old ++ mems_text lib owner mems left → old ++ modules_text lib ms left ≡ whole → new ++ modules_text lib tail past ≡ whole
modules_step lib ms tail m left past old new whole owner mems hs ho hm hp hn h =
    let front = mems_text lib m.name m.mems left in
    let behind = modules_text lib tail (drop (length m.mems) left) in
    let a : mems_text lib owner mems left ≡ front = λ i. mems_text lib (ho i) (hm i) left in
    let b : modules_text lib tail past ≡ behind = ap (modules_text lib tail) (hp ∙ ap (λ xs. drop (length xs) left) hm) in
    let joined : new ++ modules_text lib tail past ≡ (old ++ front) ++ behind = λ i. (hn ∙ ap (λ x. old ++ x) a) i ++ b i in
    let same : old ++ modules_text lib (m ∷ tail) left ≡ whole = ap (λ xs. old ++ modules_text lib xs left) (sym hs) ∙ h in
    joined ∙ append_assoc old front behind ∙ same

pub fit_step : (lib : Library) (ms tail : List Module) (m : Module) (left past : List Plan) (mems : List Mem) → ms ≡ m ∷ tail → mems ≡ m.mems → past ≡ drop (length mems) left → PlansFit lib (mems_of ms) left → PlansFit lib (mems_of tail) past
fit_step lib ms tail m left past mems hs hm hp fit =
    let here = subst (λ xs. PlansFit lib (mems_of xs) left) hs fit in
    let e : drop (length m.mems) left ≡ past = sym (hp ∙ ap (λ xs. drop (length xs) left) hm) in
    subst (λ ps. PlansFit lib (mems_of tail) ps) e (rest_fits lib m tail left here)
