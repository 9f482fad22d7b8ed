-- The line that a refused command leaves.
use Rattle.std.specs.Prelude.{◌≡◌, ℕ, Bool, true, false, List, [], ◌∷◌, Option, codes, ◌⊎◌}
use Rattle.std.specs.Fmt.{decimal}
use Rattle.flow_io.specs.Files.{Files, put, HoldsPart}
use Rattle.flow_io.specs.Causes.{Rose}
use Rattle.flow_top.specs.ExitStatus.{exit_of}
use Rattle.flow_top.specs.Joining.{joined}
use Rattle.rtlil_text.specs.declared.fault.TextCode.{TextCode}
use Rattle.rtlil_text.specs.declared.fault.TextCode.TheVariants as text
use Rattle.flow_top.specs.declared.status.DesignCode.{DesignCode}
use Rattle.flow_top.specs.declared.status.DesignCode.TheVariants as design
use Rattle.lib_tree.specs.declared.fault.LibCode.{LibCode}
use Rattle.lib_tree.specs.declared.fault.LibCode.TheVariants as library
use Rattle.net_wires.specs.declared.breach.BuildCode.{BuildCode}
use Rattle.net_wires.specs.declared.breach.BuildCode.TheVariants as build
use Rattle.mem_collect.specs.declared.fault.CollectCode.{CollectCode}
use Rattle.mem_collect.specs.declared.fault.CollectCode.TheVariants as collect
use Rattle.stim_text.specs.declared.fault.StimCode.{StimCode}
use Rattle.stim_text.specs.declared.fault.StimCode.TheVariants as stimulus
use Rattle.flow_top.specs.declared.status.Status.{Status}
use Rattle.flow_top.specs.declared.status.Status.TheVariants.{Ok, Usage, ReadFault, WriteFault, Design, Library, NoFit, Limit, Memory, Stimulus}

-- the number of a text's fault; want of memory is told as such, and never as a fault of the text
abbrev pub text_fault : TextCode → ℕ
text_fault text.Token = 1
text_fault text.Grammar = 2
text_fault text.Process = 3
text_fault text.Limit = 4
text_fault text.Memory = 5

-- the number of a fault of what a text means
abbrev pub build_fault : BuildCode → ℕ
build_fault build.NoWire = 1
build_fault build.Range = 2
build_fault build.WidthDiffers = 3
build_fault build.TwoDrivers = 4
build_fault build.UnknownCell = 5
build_fault build.MissingParam = 6
build_fault build.ClockRoot = 7
build_fault build.AsyncWrite = 8
build_fault build.CombLoop = 9
build_fault build.Inout = 10
build_fault build.BadRam = 11
build_fault build.Limit = 12
build_fault build.Memory = 13

-- the number of a fault of memory cells
abbrev pub collect_fault : CollectCode → ℕ
collect_fault collect.NoMemory = 1
collect_fault collect.PortIdTwice = 2
collect_fault collect.NotConstant = 3
collect_fault collect.MasksOverlap = 4
collect_fault collect.BadWidth = 5
collect_fault collect.Memory = 6

abbrev pub design_fault : DesignCode → ℕ
design_fault (design.Text code) = text_fault code
design_fault (design.Build code) = build_fault code
design_fault (design.Collect code) = collect_fault code

-- the number of a library's fault
abbrev pub library_fault : LibCode → ℕ
library_fault library.Token = 1
library_fault library.Unclosed = 2
library_fault library.UnknownWord = 3
library_fault library.NotForKind = 4
library_fault library.Twice = 5
library_fault library.Missing = 6
library_fault library.BadWidths = 7
library_fault library.BadNumber = 8
library_fault library.Limit = 9
library_fault library.Memory = 10

-- the number of a stimulus's fault
abbrev pub stimulus_fault : StimCode → ℕ
stimulus_fault stimulus.Line = 1
stimulus_fault stimulus.Width = 2
stimulus_fault stimulus.Clock = 3
stimulus_fault stimulus.Limit = 4
stimulus_fault stimulus.Memory = 5

-- the number of the fault in a status, 0 where it has none
abbrev pub fault_of : Status → ℕ
fault_of (Design inside name line code) = design_fault code
fault_of (Library line code) = library_fault code
fault_of (Stimulus line code) = stimulus_fault code
fault_of other = 0

-- the line in a status, 0 where it has none
abbrev pub line_in : Status → ℕ
line_in (Design inside name line code) = line
line_in (Library line code) = line
line_in (Stimulus line code) = line
line_in other = 0

-- a name, or - for none
abbrev pub shown_name : List ℕ → List ℕ
shown_name [] = codes "-"
shown_name (byte ∷ bytes) = byte ∷ bytes

-- the name in a status, - where it has none
abbrev pub name_of : Status → List ℕ
name_of (Design inside name line code) = shown_name name
name_of (NoFit inside memory) = shown_name memory
name_of other = codes "-"

-- the word refused, the exit status, the fault, the line and the name, and a line feed
abbrev pub refusal_line : Status → List ℕ
refusal_line status =
    joined (codes "refused " ∷ decimal (exit_of status) ∷ codes " " ∷ decimal (fault_of status) ∷ codes " " ∷ decimal (line_in status) ∷ codes " " ∷ name_of status ∷ (10 ∷ []) ∷ [])

-- the line stands in the file, or a write failed and the file holds what it held or a part of the line
abbrev pub LineLeft : Option Files → Option Files → List ℕ → List ℕ → ℕ → ℕ → Type 0
LineLeft old new name line before now = (new ≡ put old name line) ⊎ (Rose before now × HoldsPart old new name line)

-- the input was read and refused
abbrev pub is_refusal : Status → Bool
is_refusal Ok = false
is_refusal Usage = false
is_refusal ReadFault = false
is_refusal WriteFault = false
is_refusal (Design inside name line code) = true
is_refusal (Library line code) = true
is_refusal (NoFit inside memory) = true
is_refusal (Limit counts seen) = true
is_refusal Memory = false
is_refusal (Stimulus line code) = true

-- a status that is no refusal is handed on, and nothing is written; a refusal is handed on with its line left, or memory
-- was wanted for that, and nothing is written
abbrev pub RefusedBy : Bool → List ℕ → Option Files → Option Files → ℕ → ℕ → Status → Status → Type 0
RefusedBy false report old new before now status result = (result ≡ status) × (new ≡ old)
RefusedBy true report old new before now status result =
    ((result ≡ status) × LineLeft old new report (refusal_line status) before now) ⊎ ((result ≡ Memory) × (new ≡ old))

abbrev pub Refused : List ℕ → Option Files → Option Files → ℕ → ℕ → Status → Status → Type 0
Refused report old new before now status result = RefusedBy (is_refusal status) report old new before now status result
