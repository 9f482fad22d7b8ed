-- The module with the cell of a plain choice in the place of a memory, and what holds of it.
use Rattle.std.specs.Prelude.{◌≡◌, ℕ, ◌+◌, ◌^◌, ◌<◌, ◌≤◌, List, [], ◌∷◌, ◌++◌, length, Some, slice_get}
use Rattle.std.specs.List.{remove}
use Rattle.lib_core.specs.declared.library.Library.{Library}
use Rattle.net_core.specs.declared.mems.Mem.{Mem}
use Rattle.net_core.specs.declared.mems.MemJob.{MemJob}
use Rattle.net_core.specs.declared.modules.Module.{Module}
use Rattle.net_core.specs.declared.rams.RamCell.{RamCell}
use Rattle.net_core.specs.Nodes.{NetsWithin, Ordered}
use Rattle.net_core.specs.Ports.{Interface}
use Rattle.net_core.specs.Runs.{RefinesModule}
use Rattle.net_core.specs.Simulation.{Simulates}
use Rattle.net_core.specs.Valid.{IsName, MemFits, IsValid, cell_names, silent_nodes}
use Rattle.geom_core.specs.declared.candidates.RamChoice.{RamChoice}
use Rattle.fit_rules.specs.Limits.{LibraryLimits}
use Rattle.ram_emit.specs.Plain.{IsPlain}
use Rattle.ram_emit.specs.Cell.{plain_cell, new_nets}

-- the memories without the one of a number
abbrev pub without : List Mem → ℕ → List Mem
without mems i = remove mems i

-- The memory of a number is taken out, the cell comes behind the others, and so many nets are new.
abbrev pub placed_in : Module → ℕ → RamCell → ℕ → Module
placed_in m i cell nets = record m { nets = m.nets + nets; mems = without m.mems i; rams = m.rams ++ cell ∷ [] }

-- The cell of a choice in the place of a memory, the new nets numbered behind the module's own.
abbrev pub in_place : Library → Module → ℕ → Mem → RamChoice → List ℕ → Module
in_place lib m i x c name = placed_in m i (plain_cell lib x c name m.nets) (new_nets lib x c)

-- the memory has this number in the module, and the choice is plain
pub record CanPlace (lib : Library) (m : Module) (i : ℕ) (job : MemJob) (c : RamChoice) : Type 0 where
  pub limits : LibraryLimits lib
  pub there : slice_get m.mems i ≡ Some job.mem
  pub valid : MemFits job.mem
  pub plain : IsPlain lib job c

-- The laws: the new module does only what the old one may, over the same nets; and it has a combinational order where the old
-- one has.
abbrev pub PlacedSimulates : Type 0
PlacedSimulates =
    (lib : Library) (modules : List Interface) (m : Module) (i : ℕ) (job : MemJob) (c : RamChoice) (name : List ℕ) → CanPlace lib m i job c → Simulates lib modules [] m (in_place lib m i job.mem c name)

abbrev pub PlacedRefines : Type 0
PlacedRefines =
    (lib : Library) (modules : List Interface) (m : Module) (i : ℕ) (job : MemJob) (c : RamChoice) (name : List ℕ) → CanPlace lib m i job c → RefinesModule lib modules m (in_place lib m i job.mem c name)

abbrev pub PlacedIsOrdered : Type 0
PlacedIsOrdered =
    (lib : Library) (m : Module) (i : ℕ) (job : MemJob) (c : RamChoice) (name : List ℕ) → CanPlace lib m i job c → NetsWithin m → Ordered m → Ordered (in_place lib m i job.mem c name)

-- The cell has a name of its own, and there is room for its ports and nets.
pub record HasRoom (lib : Library) (m : Module) (x : Mem) (c : RamChoice) (name : List ℕ) : Type 0 where
  pub named : IsName name
  pub fresh : (k : ℕ) → slice_get (cell_names m) k ≡ Some name → ⊥
  pub nets : m.nets + new_nets lib x c ≤ 67108864
  pub silent : silent_nodes m + 32 ≤ 3221225472
  pub rams : length m.rams + 1 < 2 ^ 32

-- The law: the new module is valid where the old one is.
abbrev pub PlacedIsValid : Type 0
PlacedIsValid =
    (lib : Library) (modules : List Interface) (m : Module) (i : ℕ) (job : MemJob) (c : RamChoice) (name : List ℕ) → CanPlace lib m i job c → HasRoom lib m job.mem c name → IsValid lib modules m → IsValid lib modules (in_place lib m i job.mem c name)
