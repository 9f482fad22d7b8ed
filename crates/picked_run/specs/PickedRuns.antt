-- The picked run of a module for a seed, and the law that it is a run.
use Rattle.std.specs.Prelude.{◌≡◌, ℕ, suc, Bool, List, map, Some, slice_get}
use Rattle.lib_core.specs.declared.library.Library.{Library}
use Rattle.net_core.specs.declared.bits.Event.{Event}
use Rattle.net_core.specs.declared.modules.Module.{Module}
use Rattle.net_core.specs.Values.{Wave}
use Rattle.net_core.specs.Ports.{inputs_of, outputs_of, happening_of}
use Rattle.net_core.specs.Runs.{Run, HasTrace, shown}
use Rattle.ram_step.specs.Runs.{EdgesAreInputs}
use Rattle.picked_run.specs.Conditions.{CanRun}
use Rattle.picked_run.specs.States.{SimLook, sim_start, sim_stepped}
use Rattle.picked_run.specs.Settled.{IsSettled}

-- states one after the other, and a wave that is settled at each event
pub record PickedRun (lib : Library) (m : Module) (seed : ℕ) (events : List Event) (v : Wave) : Type 0 where
  pub state : ℕ → SimLook
  pub starts : state 0 ≡ sim_start lib m seed
  pub settled : (t : ℕ) (e : Event) → slice_get events t ≡ Some e → IsSettled lib m seed t e (state t) (v t)
  pub steps : (t : ℕ) (e : Event) → slice_get events t ≡ Some e → state (suc t) ≡ sim_stepped m seed t e (v t) (state t)

-- the values of the outputs at each event of the picked run
pub record IsShown (lib : Library) (m : Module) (seed : ℕ) (events : List Event) (outs : List (List Bool)) : Type 0 where
  pub wave : Wave
  pub run : PickedRun lib m seed events wave
  pub shows : outs ≡ shown (outputs_of m) wave 0 (map (happening_of (inputs_of m)) events)

-- The laws: the picked run of a module is a run of the module, and what it shows is a trace.
abbrev pub PickedRunIsRun : Type 0
PickedRunIsRun =
    (lib : Library) (m : Module) (seed : ℕ) (events : List Event) (v : Wave) → CanRun lib m → EdgesAreInputs (inputs_of m) events → PickedRun lib m seed events v → Run lib m (map (happening_of (inputs_of m)) events) v

abbrev pub ShownIsTrace : Type 0
ShownIsTrace =
    (lib : Library) (m : Module) (seed : ℕ) (events : List Event) (outs : List (List Bool)) → CanRun lib m → EdgesAreInputs (inputs_of m) events → IsShown lib m seed events outs → HasTrace lib m (map (happening_of (inputs_of m)) events) outs
