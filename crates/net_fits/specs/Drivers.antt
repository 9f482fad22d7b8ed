-- The laws of drivers: what is driven is a net, and each net has at most one driver.
use Rattle.std.specs.Prelude.{ℕ, List}
use Rattle.lib_core.specs.declared.library.Tri.{Tri}
use Rattle.rtlil_text.specs.declared.doc.DocModule.{DocModule}
use Rattle.net_core.specs.declared.bits.Bit.{Bit}
use Rattle.net_core.specs.declared.rams.RamCell.{RamCell}
use Rattle.net_core.specs.Drivers.{HasOneDriver}
use Rattle.net_core.specs.Ports.{Interface}
use Rattle.net_wires.specs.declared.clock.ClockRoot.{ClockRoot}
use Rattle.net_gather.specs.Cells.{Context}
use Rattle.net_gather.specs.Gather.{gathered}
use Rattle.net_module.specs.Assembly.{module_of}
use Rattle.net_fits.specs.Cells.{CellsDriveNets, IsSound}
use Rattle.net_fits.specs.Driven.{IsSolved}
use Rattle.net_fits.specs.Rams.{AreRams}
use Rattle.net_fits.specs.Wires.{InputsAreNets}

-- The law: each bit of an input wire is a net.
abbrev pub SolvedInputs : Type 0
SolvedInputs = (x : Context) (m : DocModule) (places : List Bit) (count : ℕ) → IsSolved x m places count → InputsAreNets places m.items

-- The law: and so is each bit of a pin that a cell drives.
abbrev pub SolvedCells : Type 0
SolvedCells = (x : Context) (m : DocModule) (places : List Bit) (count : ℕ) → IsSolved x m places count → CellsDriveNets places (gathered x m.items).cells

-- The law: each net has at most one driver.
abbrev pub SolvedDrivers : Type 0
SolvedDrivers = (modules : List Interface) (x : Context) (m : DocModule) (places : List Bit) (count : ℕ) (roots : List ClockRoot) (starts : List Tri) (rams : List RamCell) → IsSound modules x m → IsSolved x m places count
    → AreRams places count (gathered x m.items).cells rams → HasOneDriver (module_of m (gathered x m.items).cells places count roots starts rams)
