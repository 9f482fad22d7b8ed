-- The laws of the whole: every module that is built is valid and has a combinational order, and so is the design.
use Rattle.std.specs.Prelude.{Ok, List}
use Rattle.lib_core.specs.declared.library.Library.{Library}
use Rattle.rtlil_text.specs.declared.doc.Doc.{Doc}
use Rattle.rtlil_text.specs.declared.doc.DocModule.{DocModule}
use Rattle.rtlil_text.specs.Grammar.{All}
use Rattle.net_core.specs.declared.modules.Design.{Design}
use Rattle.net_core.specs.declared.modules.Module.{Module}
use Rattle.net_core.specs.Nodes.{Ordered}
use Rattle.net_core.specs.Valid.{Each, IsValid, IsValidDesign}
use Rattle.net_gather.specs.Faces.{doc_interfaces}
use Rattle.net_build.specs.Builds.{Builds, IsBuilt}
use Rattle.net_fits.specs.Written.{IsWritten}
use Rattle.build_valid.specs.Documents.{IsWrittenDoc}
use Rattle.build_valid.specs.Libraries.{LibraryFits}

-- The law: a module that is built is valid under the ports that the document says.
abbrev pub BuiltModuleIsValid : Type 0
BuiltModuleIsValid = (lib : Library) (modules : List DocModule) (d : DocModule) (m : Module) → LibraryFits lib → All IsWritten modules → IsWritten d → IsBuilt lib modules d m → IsValid lib (doc_interfaces modules) m

-- The law: a design that is built is valid, and each of its modules has a combinational order.
abbrev pub BuiltIsValidDesign : Type 0
BuiltIsValidDesign = (doc : Doc) (lib : Library) (design : Design) → LibraryFits lib → IsWrittenDoc doc → Builds doc lib (Ok design) → IsValidDesign lib design × Each design.modules Ordered
