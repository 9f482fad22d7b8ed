-- The laws of modules with nothing wrong: what net_fits takes as given of a module that is gathered and whose places have bits.
use Rattle.std.specs.Prelude.{List}
use Rattle.lib_core.specs.declared.library.Library.{Library}
use Rattle.rtlil_text.specs.declared.doc.DocModule.{DocModule}
use Rattle.net_core.specs.declared.modules.Module.{Module}
use Rattle.net_core.specs.Nodes.{Ordered}
use Rattle.net_wires.specs.declared.clock.ClockRoot.{ClockRoot}
use Rattle.net_wires.specs.declared.number.Nets.{Nets}
use Rattle.net_gather.specs.Faces.{doc_interfaces}
use Rattle.net_build.specs.Faults.{IsFaultless}
use Rattle.net_build.specs.Means.{context_in, gathered_in, IsMeant, IsWired}
use Rattle.net_fits.specs.Cells.{IsSound}
use Rattle.net_fits.specs.Clocks.{root_sources, RootsAmong}
use Rattle.net_fits.specs.Driven.{IsSolved}
use Rattle.net_fits.specs.Written.{IsWritten}

-- The law: a module of a text with nothing wrong is sound under the ports that the document says.
abbrev pub FaultlessIsSound : Type 0
FaultlessIsSound = (lib : Library) (modules : List DocModule) (d : DocModule) → IsWritten d → IsFaultless lib modules d → IsSound (doc_interfaces modules) (context_in lib modules d) d

-- The law: bits that its places have by what they have to satisfy are those that following gives, and nothing has two drivers.
abbrev pub WiredIsSolved : Type 0
WiredIsSolved = (lib : Library) (modules : List DocModule) (d : DocModule) (nets : Nets) (roots : List ClockRoot) → IsFaultless lib modules d → IsWired d (gathered_in lib modules d) nets roots
    → IsSolved (context_in lib modules d) d nets.bits nets.count

-- The law: clocks of places lead to inputs, and to what cells drive that are kept as they are.
abbrev pub WiredRoots : Type 0
WiredRoots = (lib : Library) (modules : List DocModule) (d : DocModule) (nets : Nets) (roots : List ClockRoot) → IsWired d (gathered_in lib modules d) nets roots
    → RootsAmong (root_sources d.items (gathered_in lib modules d).cells) roots

-- The law: a module that items mean has a combinational order.
abbrev pub MeantIsOrdered : Type 0
MeantIsOrdered = (lib : Library) (modules : List DocModule) (d : DocModule) (m : Module) → IsMeant lib modules d m → Ordered m
