-- What is found once of a module before it is simulated.
use Rattle.std.specs.Prelude.{◌≡◌, ℕ, ◌<◌, ◌≤◌, length, Some}
use Rattle.net_core.specs.declared.modules.Module.{Module}
use Rattle.net_core.specs.Nodes.{Node}
use Rattle.net_core.specs.Ports.{inputs_of}
use Rattle.picked_run.specs.Settled.{IsFree}
use Rattle.sim_settle.specs.declared.places.NodePlace.{NodePlace}
use Rattle.sim_settle.specs.declared.schedules.Schedule.{Schedule}
use Rattle.sim_settle.specs.Nets.{IsAmong, AreBelow}
use Rattle.sim_settle.specs.Places.{node_at, IsPlaceOrder}

-- no node drives more nets than this
abbrev pub IsWide : Module → ℕ → Type 0
IsWide m width = (at : NodePlace) (p : Node) → node_at m at ≡ Some p → length p.drives ≤ width

pub record IsSchedule (m : Module) (s : Schedule) : Type 0 where
  pub inputs : s.inputs ≡ inputs_of m
  pub free : (n : ℕ) → n < m.nets → IsFree m n → IsAmong s.free n
  pub free_nets : AreBelow m.nets s.free
  pub order : IsPlaceOrder m s.work
  pub width : IsWide m s.width
