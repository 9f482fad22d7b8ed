-- The laws of RAM cells: they are made of gathered cells, and their clocks come from roots.
use Rattle.std.specs.Prelude.{List}
use Rattle.std.specs.List.{flat_map}
use Rattle.lib_core.specs.declared.library.Library.{Library}
use Rattle.rtlil_text.specs.declared.doc.DocModule.{DocModule}
use Rattle.rtlil_text.specs.Grammar.{All}
use Rattle.net_core.specs.Ports.{ram_clocks}
use Rattle.net_wires.specs.declared.clock.ClockRoot.{ClockRoot}
use Rattle.net_wires.specs.declared.number.Nets.{Nets}
use Rattle.net_module.specs.Assembly.{rams_of}
use Rattle.net_build.specs.Faults.{IsFaultless}
use Rattle.net_build.specs.Means.{gathered_in, IsWired}
use Rattle.net_fits.specs.Clocks.{ComesFrom}
use Rattle.net_fits.specs.Rams.{AreRams}
use Rattle.build_valid.specs.Libraries.{PortsApart}

-- The law: so it is of the RAM cells of a module with nothing wrong, where the ports of the library's RAMs have different names.
abbrev pub WiredRams : Type 0
WiredRams = (lib : Library) (modules : List DocModule) (d : DocModule) (nets : Nets) (roots : List ClockRoot) → PortsApart lib → IsFaultless lib modules d → IsWired d (gathered_in lib modules d) nets roots
    → AreRams nets.bits nets.count (gathered_in lib modules d).cells (rams_of lib nets.bits roots (gathered_in lib modules d).cells)
    × All (ComesFrom nets.bits roots) (flat_map ram_clocks (rams_of lib nets.bits roots (gathered_in lib modules d).cells))
