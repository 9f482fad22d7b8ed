-- Why a file or a text that a command reads stops it.
use Rattle.std.specs.Prelude.{◌≡◌, ℕ, ◌<◌, List, [], Option, ⊤, ◌⊎◌}
use Rattle.flow_io.specs.Files.{Files, HasAtLeast}
use Rattle.flow_io.specs.Causes.{Rose}
use Rattle.rtlil_lex.specs.Lines.{token_lines}
use Rattle.rtlil_text.specs.declared.doc.Doc.{Doc}
use Rattle.rtlil_text.specs.declared.fault.TextCode.{TextCode}
use Rattle.rtlil_text.specs.declared.fault.TextCode.TheVariants as text
use Rattle.rtlil_text.specs.declared.fault.TextFault.{TextFault}
use Rattle.rtlil_text.specs.Reads.{Reads}
use Rattle.rtlil_text.specs.Text.{limited_lines, IsWithinLimits, IsFirstFault}
use Rattle.flow_top.specs.declared.status.Counted.TheVariants as counted
use Rattle.flow_top.specs.declared.status.DesignCode.TheVariants as design
use Rattle.flow_top.specs.declared.status.Status.{Status}
use Rattle.flow_top.specs.declared.status.Status.TheVariants.{Ok, Usage, ReadFault, WriteFault, Design, Library, NoFit, Limit, Memory}

-- why a read stopped the command
abbrev pub ReadStops : Option Files → List ℕ → ℕ → ℕ → Status → Type 0
ReadStops told name before now ReadFault = Rose before now
ReadStops told name before now (Limit counts seen) = (counts ≡ counted.File) × ((16777216 < seen) × HasAtLeast told name seen)
ReadStops told name before now Memory = ⊤
ReadStops told name before now other = ⊥

-- the status of a text's fault, by its code, its line and what was seen
abbrev pub status_by : TextCode → ℕ → ℕ → Status
status_by text.Memory line seen = Memory
status_by text.Limit line seen = Limit counted.Text seen
status_by text.Token line seen = Design [] [] line (design.Text text.Token)
status_by text.Grammar line seen = Design [] [] line (design.Text text.Grammar)
status_by text.Process line seen = Design [] [] line (design.Text text.Process)

abbrev pub text_status : TextFault → Status
text_status fault = status_by fault.code fault.line fault.seen

-- the text reads as no document within the limits, and this is its first fault
pub record IsNoText (bytes : List ℕ) (fault : TextFault) : Type 0 where
  pub first : IsFirstFault (limited_lines (token_lines bytes)) fault
  pub unread : (doc : Doc) → Reads bytes doc → IsWithinLimits bytes doc → ⊥

-- the status tells the first fault of a text, or want of memory
pub record TellsFault (bytes : List ℕ) (status : Status) : Type 0 where
  pub fault : TextFault
  pub is_none : IsNoText bytes fault
  pub status_is : status ≡ text_status fault

abbrev pub RefusesText : List ℕ → Status → Type 0
RefusesText bytes status = (status ≡ Memory) ⊎ TellsFault bytes status

-- the bytes read as a document within the limits
pub record HasText (bytes : List ℕ) : Type 0 where
  pub doc : Doc
  pub reads : Reads bytes doc
  pub within : IsWithinLimits bytes doc
