-- A plan that fits a memory is one for the report on that memory alone.
use Rattle.std.proofs.Common.{◌≡◌, true, List, [], ◌∷◌, sym, subst}
use Rattle.lib_core.specs.declared.library.Library.{Library}
use Rattle.net_core.specs.declared.mems.Mem.{Mem}
use Rattle.net_core.specs.declared.mems.Style.TheVariants.{Auto}
use Rattle.fit_rules.specs.declared.plans.Plan.{Plan}
use Rattle.fit_rules.specs.Fits.{candidate_fits}
use Rattle.fit_rules.specs.Limits.{MemLimits}
use Rattle.plan_report.specs.Report.{PlansFit}

pub alone_fits : (lib : Library) (x : Mem) (p : Plan) (mems : List Mem) → mems ≡ x ∷ [] → MemLimits x → candidate_fits (record { mem = x; quiet = [] }) lib Auto p.candidate ≡ true → PlansFit lib mems (p ∷ [])
alone_fits lib x p mems is limits fits = subst (λ ms. PlansFit lib ms (p ∷ [])) (sym is) (record { quiet = []; limits = limits; fits = fits }, tt)
