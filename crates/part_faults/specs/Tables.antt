-- What is looked up of a module while its memory cells are checked.
use Rattle.net_core.specs.declared.modules.Module.{Module}
use Rattle.part_faults.specs.declared.tables.Tables.{Tables}
use Rattle.part_faults.specs.Driven.{TellsDriven}
use Rattle.part_faults.specs.Parts.{AreMemories}
use Rattle.part_faults.specs.Writes.{TellsIds}

abbrev pub module_of : Tables → Module
module_of t = t.whole.now

-- the tables are those of their module: places of memories, numbers of all write ports, nets that are driven
pub record Tells (t : Tables) : Type 0 where
  pub memories : AreMemories (module_of t) t.memories
  pub writes : TellsIds (module_of t) (module_of t).parts t.writes.items
  pub driven : TellsDriven (module_of t) t.driven.items
