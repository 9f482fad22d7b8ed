-- How a command may end, and what it leaves.
use Rattle.std.specs.Prelude.{◌≡◌, ◌≢◌, ℕ, ◌<◌, ◌≤◌, List, [], ◌∷◌, length, ⊤, ◌⊎◌, Some, None, Option}
use Rattle.std.specs.FinMap.{get}
use Rattle.flow_io.specs.Files.{Files, Tells, HasAtLeast}
use Rattle.flow_io.specs.Causes.{Rose}
use Rattle.rtlil_print.specs.Print.{printed}
use Rattle.rtlil_text.specs.declared.doc.Doc.{Doc}
use Rattle.rtlil_text.specs.Reads.{Reads}
use Rattle.rtlil_text.specs.Text.{IsWithinLimits}
use Rattle.lib_core.specs.declared.library.Library.{Library as Lib}
use Rattle.lib_read.specs.Reads.{LibReads}
use Rattle.lib_read.specs.Limits.{IsWithinLimits as IsTaken}
use Rattle.map_flow.specs.Maps.{IsMapped, IsRefused}
use Rattle.map_flow.specs.declared.map.Made.{Made}
use Rattle.map_flow.specs.declared.refusal.MapRefusal.{MapRefusal}
use Rattle.map_flow.specs.declared.refusal.MapRefusal.TheVariants as refusal
use Rattle.flow_top.specs.Asked.{Asked, MapFiles, Map, FmtFiles, Fmt, SimFiles, Sim}
use Rattle.flow_top.specs.Reading.{TellsFault, HasText}
use Rattle.flow_top.specs.declared.status.Counted.{Counted}
use Rattle.flow_top.specs.Simulating.{SimWrites, SimStops, SimFits, HasLongInput}
use Rattle.flow_top.specs.Refusing.{TellsLibraryFault, TellsRefusal}
use Rattle.flow_top.specs.RefusalLine.{refusal_line, LineLeft}
use Rattle.flow_top.specs.Texts.{put_all, WroteSome, BrokeOff}
use Rattle.flow_top.specs.declared.status.Counted.TheVariants as counted
use Rattle.flow_top.specs.declared.status.Status.{Status}
use Rattle.flow_top.specs.declared.status.Status.TheVariants.{Ok, Usage, ReadFault, WriteFault, Design, Library, NoFit, Limit, Memory, Stimulus}

-- what clauses see of a desk: its files, where it tells them, and its two counts of faults
pub record Look : Type 0 where
  pub files : Option Files
  pub reads : ℕ
  pub writes : ℕ

abbrev pub look_of : {D : Type 0} → (D → Option Files) → (D → ℕ) → (D → ℕ) → D → Look
look_of files reads writes desk = record { files = files desk; reads = reads desk; writes = writes desk }

-- what map reads: the document of the design's file, and the library
pub record MapReads (asked : MapFiles) (told : Option Files) : Type 0 where
  pub design : List ℕ
  pub library : List ℕ
  pub doc : Doc
  pub lib : Lib
  pub design_told : Tells told asked.design design
  pub library_told : Tells told asked.library library
  pub design_short : length design ≤ 16777216
  pub library_short : length library ≤ 16777216
  pub reads : Reads design doc
  pub library_reads : LibReads library lib

-- what map writes: the texts of the mapped design
pub record MapWrites (asked : MapFiles) (told : Option Files) (texts : List (List ℕ × List ℕ)) : Type 0 where
  pub read : MapReads asked told
  pub made : Made
  pub maps : IsMapped read.doc read.lib made
  pub texts_are : texts ≡ (asked.inferred, made.inferred.items) ∷ (asked.netlist, made.netlist.items) ∷ (asked.report, made.report.items) ∷ []

-- what fmt writes: the printed text of the document that the file reads as
pub record FmtWrites (asked : FmtFiles) (told : Option Files) (texts : List (List ℕ × List ℕ)) : Type 0 where
  pub design : List ℕ
  pub doc : Doc
  pub design_told : Tells told asked.design design
  pub design_short : length design ≤ 16777216
  pub reads : Reads design doc
  pub texts_are : texts ≡ (asked.out, printed doc) ∷ []

-- the texts that a command may write at these files, in their order
abbrev pub MayWrite : Asked → Option Files → List (List ℕ × List ℕ) → Type 0
MayWrite (Map asked) told texts = MapWrites asked told texts
MayWrite (Fmt asked) told texts = FmtWrites asked told texts
MayWrite (Sim asked) told texts = SimWrites asked told texts

-- a file that a command reads
abbrev pub ReadsFile : Asked → List ℕ → Type 0
ReadsFile (Map asked) name = (name ≡ asked.design) ⊎ (name ≡ asked.library)
ReadsFile (Fmt asked) name = name ≡ asked.design
ReadsFile (Sim asked) name = (name ≡ asked.netlist) ⊎ ((name ≡ asked.library) ⊎ (name ≡ asked.stimulus))

-- a limit is told of a file that passes it
abbrev pub HasLongCause : Asked → Option Files → Counted → ℕ → Type 0
HasLongCause asked told counts seen = (counts ≡ counted.File) × ((16777216 < seen) × ((name : List ℕ) × (ReadsFile asked name × HasAtLeast told name seen)))

-- the text that fmt reads is none, and the status tells its first fault
pub record FmtReadsNone (asked : FmtFiles) (told : Option Files) (status : Status) : Type 0 where
  pub design : List ℕ
  pub design_told : Tells told asked.design design
  pub design_short : length design ≤ 16777216
  pub tells : TellsFault design status

-- the text of the design that map reads is none, and the status tells its first fault
pub record MapDesignIsNone (asked : MapFiles) (told : Option Files) (status : Status) : Type 0 where
  pub design : List ℕ
  pub design_told : Tells told asked.design design
  pub design_short : length design ≤ 16777216
  pub tells : TellsFault design status

-- the text of the library that map reads is none, its design's is one, and the status tells the library's first fault
pub record MapLibraryIsNone (asked : MapFiles) (told : Option Files) (status : Status) : Type 0 where
  pub design : List ℕ
  pub library : List ℕ
  pub doc : Doc
  pub design_told : Tells told asked.design design
  pub library_told : Tells told asked.library library
  pub design_short : length design ≤ 16777216
  pub library_short : length library ≤ 16777216
  pub reads : Reads design doc
  pub tells : TellsLibraryFault library status

-- the design is not mapped, and the status tells why
pub record MapRefuses (asked : MapFiles) (told : Option Files) (status : Status) : Type 0 where
  pub read : MapReads asked told
  pub tells : TellsRefusal read.doc read.lib status

-- why what map read stops it
abbrev pub MapStops : MapFiles → Option Files → Status → Type 0
MapStops asked told status = MapDesignIsNone asked told status ⊎ (MapLibraryIsNone asked told status ⊎ MapRefuses asked told status)

-- a limit is told of a file that passes it, or of what was read
abbrev pub HasLimitCause : Asked → Option Files → Status → Type 0
HasLimitCause (Map asked) told (Limit counts seen) = HasLongCause (Map asked) told counts seen ⊎ MapStops asked told (Limit counts seen)
HasLimitCause (Fmt asked) told (Limit counts seen) = HasLongCause (Fmt asked) told counts seen ⊎ FmtReadsNone asked told (Limit counts seen)
HasLimitCause (Sim asked) told (Limit counts seen) = HasLongCause (Sim asked) told counts seen ⊎ SimStops asked told (Limit counts seen)
HasLimitCause asked told other = ⊤

-- a refusal has its cause in what was read
abbrev pub HasRefusalCause : Asked → Option Files → Status → Type 0
HasRefusalCause (Map asked) told (Design inside name line code) = MapStops asked told (Design inside name line code)
HasRefusalCause (Map asked) told (Library line code) = MapStops asked told (Library line code)
HasRefusalCause (Map asked) told (NoFit inside memory) = MapStops asked told (NoFit inside memory)
HasRefusalCause (Map asked) told (Stimulus line code) = ⊥
HasRefusalCause (Fmt asked) told (Design inside name line code) = FmtReadsNone asked told (Design inside name line code)
HasRefusalCause (Fmt asked) told (Library line code) = ⊥
HasRefusalCause (Fmt asked) told (NoFit inside memory) = ⊥
HasRefusalCause (Fmt asked) told (Stimulus line code) = ⊥
HasRefusalCause (Sim asked) told (Design inside name line code) = SimStops asked told (Design inside name line code)
HasRefusalCause (Sim asked) told (Library line code) = SimStops asked told (Library line code)
HasRefusalCause (Sim asked) told (NoFit inside memory) = ⊥
HasRefusalCause (Sim asked) told (Stimulus line code) = SimStops asked told (Stimulus line code)
HasRefusalCause asked told other = ⊤

-- where a refusal leaves its line, if it leaves one, and other files stay
abbrev pub LeavesLine : Asked → Look → Look → Status → Type 0
LeavesLine (Map asked) before after status = LineLeft before.files after.files asked.report (refusal_line status) before.writes after.writes
LeavesLine (Fmt asked) before after status = after.files ≡ before.files
LeavesLine (Sim asked) before after status = after.files ≡ before.files

-- what files hold at each status
abbrev pub FilesAfter : Asked → Look → Look → Status → Type 0
FilesAfter asked before after Ok = (texts : List (List ℕ × List ℕ)) × (MayWrite asked before.files texts × (after.files ≡ put_all before.files texts))
FilesAfter asked before after WriteFault = (texts : List (List ℕ × List ℕ)) × (MayWrite asked before.files texts × BrokeOff before.files after.files texts)
FilesAfter asked before after Memory = (after.files ≡ before.files) ⊎ ((texts : List (List ℕ × List ℕ)) × (MayWrite asked before.files texts × WroteSome before.files after.files texts))
FilesAfter asked before after Usage = after.files ≡ before.files
FilesAfter asked before after ReadFault = after.files ≡ before.files
FilesAfter asked before after refusal = LeavesLine asked before after refusal

-- nothing in the files is in the way of a command
pub record MapFits (asked : MapFiles) (files : Files) : Type 0 where
  pub design : List ℕ
  pub library : List ℕ
  pub doc : Doc
  pub lib : Lib
  pub design_there : get files asked.design ≡ Some design
  pub library_there : get files asked.library ≡ Some library
  pub design_short : length design ≤ 16777216
  pub library_short : length library ≤ 16777216
  pub reads : Reads design doc
  pub within : IsWithinLimits design doc
  pub library_reads : LibReads library lib
  pub library_within : IsTaken lib
  -- nothing refuses what the files read as
  pub unrefused : (doc : Doc) (lib : Lib) (r : MapRefusal) → Reads design doc → LibReads library lib → IsRefused doc lib r → r ≡ refusal.Memory

pub record FmtFits (asked : FmtFiles) (files : Files) : Type 0 where
  pub design : List ℕ
  pub doc : Doc
  pub design_there : get files asked.design ≡ Some design
  pub design_short : length design ≤ 16777216
  pub reads : Reads design doc
  pub within : IsWithinLimits design doc

abbrev pub Fits : Asked → Files → Type 0
Fits (Map asked) files = MapFits asked files
Fits (Fmt asked) files = FmtFits asked files
Fits (Sim asked) files = SimFits asked files

-- nothing is in the way of a command
pub record IsFree (asked : Asked) (before after : Look) (files : Files) : Type 0 where
  pub told : before.files ≡ Some files
  pub fits : Fits asked files
  pub reads : ¬ (Rose before.reads after.reads)
  pub writes : ¬ (Rose before.writes after.writes)

abbrev pub IsOkOrMemory : Status → Type 0
IsOkOrMemory Ok = ⊤
IsOkOrMemory Memory = ⊤
IsOkOrMemory other = ⊥

abbrev pub IsComplete : Asked → Look → Look → Status → Type 0
IsComplete asked before after status = (files : Files) → IsFree asked before after files → IsOkOrMemory status

-- a file that is too long, and whose turn comes, stops a command
abbrev pub IsStop : Status → Type 0
IsStop (Limit counts seen) = ⊤
IsStop ReadFault = ⊤
IsStop Memory = ⊤
IsStop other = ⊥

pub record HasLongFile (asked : MapFiles) (files : Files) : Type 0 where
  pub design : List ℕ
  pub design_there : get files asked.design ≡ Some design
  pub long : (16777216 < length design) ⊎ ((library : List ℕ) × ((get files asked.library ≡ Some library) × ((16777216 < length library) × HasText design)))

pub record HasLongText (asked : FmtFiles) (files : Files) : Type 0 where
  pub design : List ℕ
  pub design_there : get files asked.design ≡ Some design
  pub long : 16777216 < length design

abbrev pub StopsAtLongFile : Asked → Look → Status → Type 0
StopsAtLongFile (Map asked) before status = (files : Files) → before.files ≡ Some files → HasLongFile asked files → IsStop status
StopsAtLongFile (Fmt asked) before status = (files : Files) → before.files ≡ Some files → HasLongText asked files → IsStop status
StopsAtLongFile (Sim asked) before status = (files : Files) → before.files ≡ Some files → HasLongInput asked files → IsStop status

-- all that holds of a command that was understood
pub record Outcome (asked : Asked) (before after : Look) (status : Status) : Type 0 where
  pub understood : status ≢ Usage
  pub read_fault : status ≡ ReadFault → Rose before.reads after.reads
  pub write_fault : status ≡ WriteFault → Rose before.writes after.writes
  pub limit : HasLimitCause asked before.files status
  pub long_file : StopsAtLongFile asked before status
  pub refusal : HasRefusalCause asked before.files status
  pub files : FilesAfter asked before after status
  pub complete : IsComplete asked before after status
