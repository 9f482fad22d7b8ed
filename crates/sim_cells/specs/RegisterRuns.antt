-- Runs of a register by picks, and the law that its meaning allows them.
use Rattle.std.specs.Prelude.{◌≡◌, ℕ, suc, Bool, List, map, Some, slice_get}
use Rattle.net_core.specs.declared.bits.Event.{Event}
use Rattle.net_core.specs.declared.cells.Reg.{Reg}
use Rattle.net_core.specs.Values.{Wave}
use Rattle.net_core.specs.Cells.{RegAllows}
use Rattle.net_core.specs.Ports.{happening_of}
use Rattle.ram_step.specs.declared.picks.PickKey.{PickKey}
use Rattle.ram_step.specs.Runs.{EdgesAreInputs}
use Rattle.sim_cells.specs.Registers.{reg_start, reg_stepped, reg_shown}

-- states one after the other, and a wave that shows what they show
pub record RegisterRun (r : Reg) (key : ℕ → PickKey) (events : List Event) (v : Wave) : Type 0 where
  pub state : ℕ → List Bool
  pub starts : state 0 ≡ reg_start r (key 0)
  pub steps : (t : ℕ) (e : Event) → slice_get events t ≡ Some e → state (suc t) ≡ reg_stepped r (v t) e (key t) (state t)
  pub shows : (t : ℕ) (e : Event) → slice_get events t ≡ Some e → (k net : ℕ) → slice_get r.q k ≡ Some net → v t net ≡ reg_shown r (v t) (key t) (state t) k

-- The law: a run by picks, whatever the keys, is one that the register allows.
abbrev pub RegisterRunIsAllowed : Type 0
RegisterRunIsAllowed =
    (inputs : List ℕ) (r : Reg) (key : ℕ → PickKey) (events : List Event) (v : Wave) → EdgesAreInputs inputs events → RegisterRun r key events v → RegAllows inputs r (map (happening_of inputs) events) v
