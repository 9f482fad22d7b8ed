-- The law of texts: what is built of a document and a library that are read is valid.
use Rattle.std.specs.Prelude.{◌<◌, ◌+◌, ◌^◌, ℕ, List, length, Ok}
use Rattle.lib_core.specs.declared.library.Library.{Library}
use Rattle.lib_read.specs.Limits as library
use Rattle.lib_read.specs.Reads.{LibReads}
use Rattle.rtlil_text.specs.declared.doc.Doc.{Doc}
use Rattle.rtlil_text.specs.Reads.{Reads}
use Rattle.rtlil_text.specs.Text as document
use Rattle.net_core.specs.declared.modules.Design.{Design}
use Rattle.net_core.specs.Nodes.{Ordered}
use Rattle.net_core.specs.Valid.{Each, IsValidDesign}
use Rattle.net_build.specs.Builds.{Builds}

-- The law: so it is where both texts are within the limits of their readers, with no other premise.
abbrev pub ReadBuildsValid : Type 0
ReadBuildsValid = (bs ls : List ℕ) (doc : Doc) (lib : Library) (design : Design) → Reads bs doc → document.IsWithinLimits bs doc → length bs + 1 < 2 ^ 31 → LibReads ls lib → library.IsWithinLimits lib → Builds doc lib (Ok design)
    → IsValidDesign lib design × Each design.modules Ordered
