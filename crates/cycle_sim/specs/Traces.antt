-- What the runs of a module show, event by event.
use Rattle.std.specs.Prelude.{◌≡◌, ℕ, ◌+◌, ◌^◌, ◌<◌, ◌≤◌, Bool, List, [], ◌∷◌, length, Some, slice_get}
use Rattle.lib_core.specs.declared.library.Library.{Library}
use Rattle.net_core.specs.declared.bits.Bit.{Bit}
use Rattle.net_core.specs.declared.bits.Event.{Event}
use Rattle.net_core.specs.declared.modules.Module.{Module}
use Rattle.net_core.specs.Values.{Valuation, values_of}
use Rattle.net_core.specs.Ports.{outputs_of}
use Rattle.ram_step.specs.Moments.{valuation}
use Rattle.picked_run.specs.Conditions.{CanRun}
use Rattle.picked_run.specs.PickedRuns.{IsShown}
use Rattle.picked_run.specs.Settled.{IsSettled}
use Rattle.picked_run.specs.States.{SimLook, sim_stepped}
use Rattle.cycle_sim.specs.Views.{SimView, stepped_view, SettledWith, HasInputs}

-- each event has a value for each input
abbrev pub HaveInputs : Module → List Event → Type 0
HaveInputs m events = (t : ℕ) (e : Event) → slice_get events t ≡ Some e → HasInputs m e

-- these are the values of the outputs at events that follow, the first of which has a number, from this state on
abbrev pub ShowsFrom : Library → Module → ℕ → ℕ → SimLook → List Event → List (List Bool) → Type 0
ShowsFrom lib m seed t s [] outs = outs ≡ []
ShowsFrom lib m seed t s (e ∷ es) outs =
    (v : Valuation) × (rest : List (List Bool)) × IsSettled lib m seed t e s v × (outs ≡ values_of v (outputs_of m) ∷ rest) × ShowsFrom lib m seed (t + 1) (sim_stepped m seed t e v s) es rest

-- at an event the bits show these values, from one view of a simulation to the next
abbrev pub ShowsEvent : SimView → SimView → Event → List Bit → List Bool → Type 0
ShowsEvent old new e bits line =
    (values : List Bool) × SettledWith old e values × (line ≡ values_of (valuation values) bits) × (new ≡ stepped_view old e values)

-- what the tracing of so many seeds asks for, the first of which is this
pub record IsJob (lib : Library) (m : Module) (events : List Event) (workers first count : ℕ) : Type 0 where
  pub some : 1 ≤ workers
  pub runs : CanRun lib m
  pub few : length events ≤ 65536
  pub inputs : HaveInputs m events
  pub seeds : first + count < 2 ^ 64

-- one trace for each seed of so many, the first of which is this
pub record AreShown (lib : Library) (m : Module) (events : List Event) (first many : ℕ) (traces : List (List (List Bool))) : Type 0 where
  pub count : length traces ≡ many
  pub each : (k : ℕ) (outs : List (List Bool)) → slice_get traces k ≡ Some outs → IsShown lib m (first + k) events outs
