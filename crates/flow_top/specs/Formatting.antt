-- What fmt has before it writes: the printed text, or the status that it ends with.
use Rattle.std.specs.Prelude.{◌≡◌, ℕ, ◌≤◌, List, length, ⊤, Option}
use Rattle.flow_io.specs.Files.{Files, Tells}
use Rattle.flow_io.specs.Causes.{Rose}
use Rattle.rtlil_print.specs.Print.{printed}
use Rattle.rtlil_text.specs.declared.doc.Doc.{Doc}
use Rattle.rtlil_text.specs.Reads.{Reads}
use Rattle.flow_top.specs.Asked.{FmtFiles, Fmt}
use Rattle.flow_top.specs.Outcome.{HasLimitCause, HasRefusalCause}
use Rattle.flow_top.specs.declared.status.Status.{Status}
use Rattle.flow_top.specs.declared.status.Status.TheVariants.{Ok, Usage, ReadFault, WriteFault, Design, Library, NoFit, Limit, Memory}

-- the printed text of the document that was read
pub record Formatted (asked : FmtFiles) (told : Option Files) (text : List ℕ) : Type 0 where
  pub design : List ℕ
  pub doc : Doc
  pub design_told : Tells told asked.design design
  pub design_short : length design ≤ 16777216
  pub reads : Reads design doc
  pub text_is : text ≡ printed doc

-- why the command stopped before it wrote
abbrev pub FmtStopped : FmtFiles → Option Files → ℕ → ℕ → Status → Type 0
FmtStopped asked told before now ReadFault = Rose before now
FmtStopped asked told before now (Limit counts seen) = HasLimitCause (Fmt asked) told (Limit counts seen)
FmtStopped asked told before now (Design inside name line code) = HasRefusalCause (Fmt asked) told (Design inside name line code)
FmtStopped asked told before now Memory = ⊤
FmtStopped asked told before now other = ⊥
