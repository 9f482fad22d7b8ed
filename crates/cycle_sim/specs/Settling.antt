-- What holds of the parts of a simulation at all times.
use Rattle.std.specs.Prelude.{◌≡◌, Bool, List, length}
use Rattle.lib_core.specs.declared.library.Library.{Library}
use Rattle.net_core.specs.declared.modules.Module.{Module}
use Rattle.picked_run.specs.Conditions.{CanRun}
use Rattle.picked_run.specs.States.{SimLook}
use Rattle.sim_settle.specs.declared.schedules.Schedule.{Schedule}
use Rattle.sim_settle.specs.Schedules.{IsSchedule}
use Rattle.sim_state.specs.SimStates.{IsSimState}

-- The module can run, the schedule and the state are its own, and there is room for the values of its nets and of each node.
pub record IsSound (lib : Library) (m : Module) (s : Schedule) (look : SimLook) (bits first second : List Bool) : Type 0 where
  pub can : CanRun lib m
  pub schedule : IsSchedule m s
  pub state : IsSimState lib m look
  pub values : length bits ≡ m.nets
  pub picks : length first ≡ s.width
  pub shown : length second ≡ s.width
