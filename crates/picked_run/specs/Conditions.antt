-- What a module has to be to be simulated.
use Rattle.std.specs.Prelude.{◌≡◌, ℕ, ◌-◌, ◌^◌, ◌<◌, ◌≤◌, true, List, [], length, Some, slice_get}
use Rattle.lib_core.specs.declared.library.Library.{Library}
use Rattle.lib_core.specs.declared.library.Variant.{Variant}
use Rattle.net_core.specs.declared.rams.RamCell.{RamCell}
use Rattle.net_core.specs.declared.modules.Module.{Module}
use Rattle.net_core.specs.Drivers.{HasOneDriver}
use Rattle.net_core.specs.Nodes.{HasNet, NetsWithin, Ordered, nodes_of}
use Rattle.net_core.specs.Ports.{inputs_of, outputs_of}
use Rattle.net_core.specs.Runs.{variant_of, ReadsAgree}
use Rattle.net_core.specs.Shape.{fits_library}
use Rattle.net_core.specs.Valid.{Each, IsCounted, MemFits}
use Rattle.geom_core.specs.Places.{IsSized}

-- the variant is within the limits that every library which a text gives has
pub record VariantRuns (x : Variant) : Type 0 where
  pub sized : IsSized x
  pub some_widths : 1 ≤ length x.widths
  pub few_widths : length x.widths ≤ 8
  pub groups : length x.groups < 2 ^ 32

pub record RamRuns (lib : Library) (c : RamCell) : Type 0 where
  pub fits : fits_library lib c ≡ true
  pub slots : length c.slots < 2 ^ 32 - 1
  pub variant : (x : Variant) → variant_of lib c ≡ Some x → VariantRuns x

-- Memories are whole and fit, RAM cells fit the library, each net is one of the module's and has one driver at most, and there is
-- a combinational order.
pub record CanRun (lib : Library) (m : Module) : Type 0 where
  pub declared : m.declared ≡ []
  pub parts : m.parts ≡ []
  pub nets : NetsWithin m
  pub inputs : (k n : ℕ) → slice_get (inputs_of m) k ≡ Some n → n < m.nets
  pub outputs : (n : ℕ) → HasNet (outputs_of m) n → n < m.nets
  pub driven : HasOneDriver m
  pub reads_agree : ReadsAgree lib m
  pub ordered : Ordered m
  pub few_nodes : length (nodes_of m) < 2 ^ 32
  pub mems : Each m.mems MemFits
  pub few_mems : IsCounted m.mems
  pub rams : Each m.rams (RamRuns lib)
  pub few_rams : IsCounted m.rams
