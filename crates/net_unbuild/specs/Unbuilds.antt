-- A document that means a given design, but for what a text does not keep.
use Rattle.lib_core.specs.declared.library.Library.{Library}
use Rattle.rtlil_text.specs.declared.doc.Doc.{Doc}
use Rattle.rtlil_text.specs.Reads.{Writable}
use Rattle.net_core.specs.declared.modules.Design.{Design}
use Rattle.net_same.specs.Same.{AreSame}
use Rattle.net_whole.specs.Whole.{MeansWhole}

-- the document means a design that is the same but for the numbers of nets, added wires that are no ports, and the values at
-- the start that wires show
pub record MeansSame (lib : Library) (d : Design) (doc : Doc) : Type 0 where
  pub design : Design
  pub means : MeansWhole lib doc design
  pub same : AreSame d design

-- and it has a text
pub record Unbuilds (lib : Library) (d : Design) (doc : Doc) : Type 0 where
  pub writable : Writable doc
  pub means : MeansSame lib d doc
