-- The law of inouts: those of a module with nothing wrong touch nothing but cells that are kept as they are.
use Rattle.std.specs.Prelude.{List}
use Rattle.lib_core.specs.declared.library.Library.{Library}
use Rattle.lib_core.specs.declared.library.Tri.{Tri}
use Rattle.rtlil_text.specs.declared.doc.DocModule.{DocModule}
use Rattle.rtlil_text.specs.Grammar.{All}
use Rattle.net_core.specs.Valid.{InoutsApart}
use Rattle.net_wires.specs.declared.clock.ClockRoot.{ClockRoot}
use Rattle.net_wires.specs.declared.number.Nets.{Nets}
use Rattle.net_gather.specs.Faces.{doc_interfaces}
use Rattle.net_module.specs.Assembly.{module_of, rams_of}
use Rattle.net_build.specs.Faults.{IsFaultless}
use Rattle.net_build.specs.Means.{gathered_in, IsWired}
use Rattle.net_fits.specs.Written.{IsWritten}

-- The law: so it is under the ports that the document says.
abbrev pub WiredInouts : Type 0
WiredInouts = (lib : Library) (modules : List DocModule) (d : DocModule) (nets : Nets) (roots : List ClockRoot) (starts : List Tri) → All IsWritten modules → IsFaultless lib modules d → IsWired d (gathered_in lib modules d) nets roots
    → InoutsApart (doc_interfaces modules) (module_of d (gathered_in lib modules d).cells nets.bits nets.count roots starts (rams_of lib nets.bits roots (gathered_in lib modules d).cells))
