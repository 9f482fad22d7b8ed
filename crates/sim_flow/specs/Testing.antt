-- What is tested of a module before it is simulated.
use Rattle.std.specs.Prelude.{ℕ, ◌<◌, Bool, false, ◌&&◌, length, Option, Some, None, nat_lt}
use Rattle.lib_core.specs.declared.library.Library.{Library}
use Rattle.lib_core.specs.declared.library.Variant.{Variant}
use Rattle.net_core.specs.declared.rams.RamCell.{RamCell}
use Rattle.net_core.specs.declared.modules.Module.{Module}
use Rattle.net_core.specs.Nodes.{HasNet}
use Rattle.net_core.specs.Ports.{outputs_of}
use Rattle.net_core.specs.Runs.{variant_of}
use Rattle.net_core.specs.Shape.{fits_library}
use Rattle.net_core.specs.Valid.{IsCounted}

abbrev pub some_widths : Option Variant → Bool
some_widths None = false
some_widths (Some x) = nat_lt 0 (length x.widths)

-- the cell has the shape of its variant, which has a width, and its slots can be numbered
abbrev pub ram_runs : Library → RamCell → Bool
ram_runs lib c = fits_library lib c && (nat_lt (length c.slots) 4294967295 && some_widths (variant_of lib c))

-- numbers of 32 bits can name the memories and the RAM cells of the module
pub record HasCounts (m : Module) : Type 0 where
  pub few_mems : IsCounted m.mems
  pub few_rams : IsCounted m.rams

-- the nets of the outputs are nets of the module
pub record OutputsWithin (m : Module) : Type 0 where
  pub each : (n : ℕ) → HasNet (outputs_of m) n → n < m.nets
