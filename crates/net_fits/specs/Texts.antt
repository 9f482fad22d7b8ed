-- The law of texts: the modules of a text within the limits of a reader are written.
use Rattle.std.specs.Prelude.{◌<◌, ◌+◌, ◌^◌, ℕ, List, length}
use Rattle.rtlil_text.specs.declared.doc.Doc.{Doc}
use Rattle.rtlil_text.specs.Grammar.{All}
use Rattle.rtlil_text.specs.Reads.{Reads}
use Rattle.rtlil_text.specs.Text.{IsWithinLimits}
use Rattle.net_fits.specs.Written.{IsWritten}

-- The law: so they are where numbers of 31 bits count the lines, as they do where they count the bytes.
abbrev pub ReadIsWritten : Type 0
ReadIsWritten = (bs : List ℕ) (d : Doc) → Reads bs d → IsWithinLimits bs d → length bs + 1 < 2 ^ 31 → All IsWritten d.modules
