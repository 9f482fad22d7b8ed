-- What contracts see of a simulation.
use Rattle.std.specs.Prelude.{◌≡◌, ℕ, ◌+◌, ◌≤◌, Bool, List, length, Option, Some, None, cond, slice_get}
use Rattle.lib_core.specs.declared.library.Library.{Library}
use Rattle.net_core.specs.declared.bits.Event.{Event}
use Rattle.net_core.specs.declared.modules.Module.{Module}
use Rattle.net_core.specs.Ports.{inputs_of}
use Rattle.ram_step.specs.Moments.{valuation}
use Rattle.picked_run.specs.Settled.{IsSettled}
use Rattle.picked_run.specs.States.{SimLook, sim_start, sim_stepped}

-- The module and its library, the seed, what the cells keep, how many steps were taken, and the values of the nets, if they are
-- settled since the last step.
pub record SimView : Type 0 where
  pub unit : Module
  pub library : Library
  pub seed : ℕ
  pub state : SimLook
  pub steps : ℕ
  pub values : Option (List Bool)

-- the values, where they are settled
abbrev pub settled_values : Bool → List Bool → Option (List Bool)
settled_values settled values = cond settled (Some values) None

-- at the start
abbrev pub first_view : Module → Library → ℕ → SimView
first_view m lib seed = record { unit = m; library = lib; seed = seed; state = sim_start lib m seed; steps = 0; values = None }

-- with these values, all else the same
abbrev pub with_values : SimView → Option (List Bool) → SimView
with_values s values = record { unit = s.unit; library = s.library; seed = s.seed; state = s.state; steps = s.steps; values = values }

-- after an event, at these values
abbrev pub stepped_view : SimView → Event → List Bool → SimView
stepped_view s e values = record { unit = s.unit; library = s.library; seed = s.seed; state = sim_stepped s.unit s.seed s.steps e (valuation values) s.state; steps = s.steps + 1; values = None }

-- the event has a value for each input
abbrev pub HasInputs : Module → Event → Type 0
HasInputs m e = length (inputs_of m) ≤ length e.values

-- the nets have these values, settled at this event
abbrev pub SettledWith : SimView → Event → List Bool → Type 0
SettledWith s e values = IsSettled s.library s.unit s.seed s.steps e s.state (valuation values)

-- the nets have values, settled at this event
abbrev pub HasSettled : SimView → Event → Type 0
HasSettled s e = (values : List Bool) × (s.values ≡ Some values) × SettledWith s e values

-- each input has its value in this event
abbrev pub AreInputsOf : Module → Event → List Bool → Type 0
AreInputsOf m e values = (k n : ℕ) (b : Bool) → slice_get (inputs_of m) k ≡ Some n → slice_get e.values k ≡ Some b → valuation values n ≡ b

-- the nets have values, in which each input has its value in this event
abbrev pub ShowsInputs : SimView → Event → Type 0
ShowsInputs s e = (values : List Bool) × (s.values ≡ Some values) × AreInputsOf s.unit e values
