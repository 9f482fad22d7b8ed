-- Runs of a module whose memories are in parts. Its memory cells have no meaning one by one: where no rule of theirs is broken,
-- it does what the module with whole memories does.
use Rattle.std.specs.Prelude.{◌≡◌, Bool, List, [], Ok}
use Rattle.lib_core.specs.declared.library.Library.{Library}
use Rattle.net_core.specs.declared.modules.Module.{Module}
use Rattle.net_core.specs.Values.{Happening}
use Rattle.net_core.specs.Ports.{carried_of, inputs_of, ports_of}
use Rattle.net_core.specs.Runs.{HasTrace}
use Rattle.part_faults.specs.Faults.{part_faults}
use Rattle.net_collect.specs.Collected.{collected, Collects}

-- the outputs are a trace of the module, whose memories may be in parts
pub record HasPartsTrace (lib : Library) (m : Module) (events : List Happening) (outs : List (List Bool)) : Type 0 where
  pub faultless : part_faults m ≡ []
  pub trace : HasTrace lib (collected m) events outs

-- the new module has the ports, and the cells that are kept as they are, of the old one, and does only what that may do
pub record GathersModule (lib : Library) (old new : Module) : Type 0 where
  pub inputs : inputs_of new ≡ inputs_of old
  pub ports : ports_of new ≡ ports_of old
  pub carried : carried_of new ≡ carried_of old
  pub traces : (events : List Happening) (outs : List (List Bool)) → HasTrace lib new events outs → HasPartsTrace lib old events outs

-- The law: what collecting answers of a module is such a one.
abbrev pub CollectedRefines : Type 0
CollectedRefines = (lib : Library) (m n : Module) → Collects m (Ok n) → GathersModule lib m n
