-- The plans of the memories of a design, in order; or the first memory that has none.
use Rattle.std.specs.Prelude.{ℕ, Bool, List, [], ◌∷◌, ◌++◌, map, flat_map, Option, Some, None, is_none, option_to_list}
use Rattle.std.specs.List.{find}
use Rattle.lib_core.specs.declared.library.Library.{Library}
use Rattle.net_core.specs.declared.mems.Mem.{Mem}
use Rattle.net_core.specs.declared.mems.MemJob.{MemJob}
use Rattle.net_core.specs.declared.modules.Module.{Module}
use Rattle.net_core.specs.declared.modules.Design.{Design}
use Rattle.net_core.specs.Style.{style_of_mem}
use Rattle.net_core.specs.Valid.{Each, MemFits}
use Rattle.fit_rules.specs.declared.plans.Plan.{Plan}
use Rattle.fit_rules.specs.Limits.{LibraryLimits}
use Rattle.ram_emit.specs.Plain.{IsPlainCandidate}
use Rattle.plain_plan.specs.declared.planning.Planned.{Planned}
use Rattle.plain_plan.specs.declared.planning.Planned.TheVariants.{Plans, NoFit}
use Rattle.plain_plan.specs.Chosen.{least_plain}

-- the memory as it is mapped, with no pairs known that are never enabled together
abbrev pub job_of : Mem → MemJob
job_of x = record { mem = x; quiet = [] }

-- the plan of a memory, by what its attributes ask for
abbrev pub plan_of : Library → Mem → Option Plan
plan_of lib x = least_plain (job_of x) lib (style_of_mem x)

-- a memory, and the name of its module
pub record Owned : Type 0 where
  pub module_name : List ℕ
  pub mem : Mem

abbrev pub owned_in : Module → List Owned
owned_in m = map (λ x. record { module_name = m.name; mem = x }) m.mems

-- the memories of modules, in order
abbrev pub owned_by : List Module → List Owned
owned_by ms = flat_map owned_in ms

abbrev pub has_none : Library → Owned → Bool
has_none lib o = is_none (plan_of lib o.mem)

abbrev pub plan_list : Library → Owned → List Plan
plan_list lib o = option_to_list (plan_of lib o.mem)

abbrev pub no_fit : Module → Mem → Planned
no_fit m x = NoFit m.name x.name

-- the first memory without a plan if there is one, and else the plans of all
abbrev pub planned_as : Option Owned → List Plan → Planned
planned_as None plans = Plans plans
planned_as (Some o) plans = NoFit o.module_name o.mem.name

abbrev pub planned : Library → Design → Planned
planned lib d = planned_as (find (has_none lib) (owned_by d.modules)) (flat_map (plan_list lib) (owned_by d.modules))

-- the same of some memories, with plans of others before
unfoldable pub planned_from : Library → List Plan → List Owned → Planned
planned_from lib plans owned = planned_as (find (has_none lib) owned) (plans ++ flat_map (plan_list lib) owned)

-- all memories of modules, in order
abbrev pub mems_of : List Module → List Mem
mems_of ms = flat_map (λ m. m.mems) ms

-- the library is within its limits, and each memory of the modules is one that a module may have
pub record CanPlan (lib : Library) (ms : List Module) : Type 0 where
  pub limits : LibraryLimits lib
  pub fits : Each ms (λ m. Each m.mems MemFits)

-- for each memory there is a plan, which is plain for it
abbrev pub ArePlain : Library → List Mem → List Plan → Type 0
ArePlain lib [] ps = Unit {0}
ArePlain lib (x ∷ xs) [] = ⊥
ArePlain lib (x ∷ xs) (p ∷ ps) = IsPlainCandidate lib (job_of x) p.candidate × ArePlain lib xs ps
