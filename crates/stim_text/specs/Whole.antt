-- What holds of the events of every stimulus text.
use Rattle.std.specs.Prelude.{◌≡◌, ℕ, ◌≤◌, List, length, Result, Ok, Some, slice_get}
use Rattle.net_core.specs.declared.bits.Edge.{Edge}
use Rattle.net_core.specs.declared.bits.Event.{Event}
use Rattle.net_core.specs.declared.modules.Module.{Module}
use Rattle.net_core.specs.Ports.{inputs_of}
use Rattle.net_core.specs.Valid.{Each}
use Rattle.stim_text.specs.declared.fault.StimFault.{StimFault}
use Rattle.stim_text.specs.Stimulus.{read}

-- the net is one of the inputs
abbrev pub IsInput : List ℕ → ℕ → Type 0
IsInput inputs n = (place : ℕ) × (slice_get inputs place ≡ Some n)

-- an event has a value for each input, and its edge is one of an input
pub record IsWholeEvent (inputs : List ℕ) (event : Event) : Type 0 where
  pub values : length event.values ≡ length inputs
  pub edge : (e : Edge) → event.edge ≡ Some e → IsInput inputs e.net

pub record AreWholeEvents (m : Module) (events : List Event) : Type 0 where
  pub few : length events ≤ 65536
  pub each : Each events (IsWholeEvent (inputs_of m))

-- The law: the events of a text are whole.
abbrev pub EventsAreWhole : Type 0
EventsAreWhole = (m : Module) (bytes : List ℕ) (events : List Event) → ◌≡◌ {A = Result (List Event) StimFault} (read m bytes) (Ok events) → AreWholeEvents m events
