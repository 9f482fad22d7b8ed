-- What holds of a bound design.
use Rattle.std.specs.Prelude.{◌≡◌, ℕ, ◌++◌, List, [], Some, slice_get, take, drop, length}
use Rattle.lib_core.specs.declared.library.Library.{Library}
use Rattle.net_core.specs.declared.modules.Module.{Module}
use Rattle.net_core.specs.declared.modules.Design.{Design}
use Rattle.net_core.specs.Runs.{Refines}
use Rattle.fit_rules.specs.declared.plans.Plan.{Plan}
use Rattle.plain_plan.specs.Planned.{mems_of}
use Rattle.plain_bind.specs.Names.{front_of}
use Rattle.plain_bind.specs.Bound.{CanBind, bound, cells_of, nets_after}

-- The law: the bound design does only what the design may do.
abbrev pub BoundRefines : Type 0
BoundRefines = (lib : Library) (d : Design) (plans : List Plan) → CanBind lib d plans → Refines lib d (bound lib d plans)

-- No memory is left, and behind the RAM cells of the old module there is one for each memory, in order. All else stays, but
-- for the number of nets.
pub record IsBound (lib : Library) (old new : Module) (plans : List Plan) : Type 0 where
  pub mems : new.mems ≡ []
  pub rams : new.rams ≡ old.rams ++ cells_of lib (front_of old) old.nets old.mems plans
  pub nets : new.nets ≡ nets_after lib old.nets old.mems plans
  pub name : new.name ≡ old.name
  pub attrs : new.attrs ≡ old.attrs
  pub wires : new.wires ≡ old.wires
  pub declared : new.declared ≡ old.declared
  pub parts : new.parts ≡ old.parts
  pub combs : new.combs ≡ old.combs
  pub regs : new.regs ≡ old.regs
  pub carried : new.carried ≡ old.carried

-- the plans behind those of the memories of the first modules
abbrev pub plans_at : Design → List Plan → ℕ → List Plan
plans_at d plans i = drop (length (mems_of (take i d.modules))) plans

-- The law: so each module is bound, with its own plans.
abbrev pub BoundKeeps : Type 0
BoundKeeps =
    (lib : Library) (d : Design) (plans : List Plan) → CanBind lib d plans → (i : ℕ) (old new : Module) → slice_get d.modules i ≡ Some old → slice_get (bound lib d plans).modules i ≡ Some new → IsBound lib old new (plans_at d plans i)
