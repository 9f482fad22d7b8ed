-- What the laws of whole designs take of a document, as documents that are read have it.
use Rattle.std.specs.Prelude.{◌<◌, ◌+◌, ◌^◌, ℕ, List, length, map}
use Rattle.rtlil_text.specs.declared.doc.Doc.{Doc}
use Rattle.rtlil_text.specs.Grammar.{All, AreDistinct, module_name}
use Rattle.rtlil_text.specs.Reads.{Reads}
use Rattle.rtlil_text.specs.Text.{IsWithinLimits}
use Rattle.net_fits.specs.Written.{IsWritten}

-- The modules are written, no two have one name, and numbers of 32 bits count them.
pub record IsWrittenDoc (d : Doc) : Type 0 where
  pub modules : All IsWritten d.modules
  pub names : AreDistinct (map module_name d.modules)
  pub count : length d.modules < 2 ^ 32

-- The law: so it is of a document that a text within the limits of a reader reads as.
abbrev pub ReadDocIsWritten : Type 0
ReadDocIsWritten = (bs : List ℕ) (d : Doc) → Reads bs d → IsWithinLimits bs d → length bs + 1 < 2 ^ 31 → IsWrittenDoc d
