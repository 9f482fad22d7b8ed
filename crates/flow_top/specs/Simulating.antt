-- What sim reads and writes, why what it read stops it, and what it needs.
use Rattle.std.specs.Prelude.{◌≡◌, ℕ, ◌<◌, ◌≤◌, List, [], ◌∷◌, length, ◌⊎◌, Some, Option}
use Rattle.std.specs.FinMap.{get}
use Rattle.flow_io.specs.Files.{Files, Tells}
use Rattle.rtlil_text.specs.declared.doc.Doc.{Doc}
use Rattle.rtlil_text.specs.Reads.{Reads}
use Rattle.rtlil_text.specs.Text.{IsWithinLimits}
use Rattle.lib_core.specs.declared.library.Library.{Library as Lib}
use Rattle.lib_read.specs.Reads.{LibReads}
use Rattle.lib_read.specs.Limits.{IsWithinLimits as IsTaken}
use Rattle.net_core.specs.declared.bits.Event.{Event}
use Rattle.net_core.specs.declared.modules.Module.{Module}
use Rattle.net_whole.specs.declared.fault.WholeFault.{WholeFault}
use Rattle.net_whole.specs.declared.fault.WholeFault.TheVariants as whole
use Rattle.net_whole.specs.Whole.{IsFault}
use Rattle.stim_text.specs.declared.fault.StimCode.{StimCode}
use Rattle.stim_text.specs.declared.fault.StimCode.TheVariants as stimulus
use Rattle.stim_text.specs.declared.fault.StimFault.{StimFault}
use Rattle.trace_text.specs.Lengths.{text_bytes}
use Rattle.sim_flow.specs.Simulates.{IsSubject, HasEvents, HasFault, IsUntraced, IsSimulated}
use Rattle.sim_flow.specs.declared.tracing.TraceRefusal.{TraceRefusal}
use Rattle.sim_flow.specs.declared.tracing.TraceRefusal.TheVariants as untraced
use Rattle.flow_top.specs.Asked.{SimFiles}
use Rattle.flow_top.specs.Reading.{TellsFault, HasText}
use Rattle.flow_top.specs.Refusing.{TellsLibraryFault, build_status, collect_status}
use Rattle.flow_top.specs.declared.status.Counted.TheVariants as counted
use Rattle.flow_top.specs.declared.status.Status.{Status}
use Rattle.flow_top.specs.declared.status.Status.TheVariants.{Limit, Memory, Stimulus}

-- ---- statuses

abbrev pub whole_status : WholeFault → Status
whole_status whole.Memory = Memory
whole_status (whole.Build f) = build_status f
whole_status (whole.Collect f) = collect_status f

abbrev pub stimulus_status_by : StimCode → ℕ → ℕ → Status
stimulus_status_by stimulus.Memory line seen = Memory
stimulus_status_by stimulus.Limit line seen = Limit counted.Stimulus seen
stimulus_status_by code line seen = Stimulus line code

abbrev pub stimulus_status : StimFault → Status
stimulus_status f = stimulus_status_by f.code f.line f.seen

abbrev pub trace_status : TraceRefusal → Status
trace_status untraced.Memory = Memory
trace_status (untraced.Long seen) = Limit counted.Trace seen

-- the status tells why the document has no module that is simulated
pub record TellsNoSubject (doc : Doc) (lib : Lib) (status : Status) : Type 0 where
  pub cause : WholeFault
  pub refused : IsFault doc lib cause
  pub status_is : status ≡ whole_status cause

-- the status tells the first fault of a stimulus
pub record TellsStimulusFault (m : Module) (bytes : List ℕ) (status : Status) : Type 0 where
  pub fault : StimFault
  pub has : HasFault m bytes fault
  pub status_is : status ≡ stimulus_status fault

abbrev pub RefusesStimulus : Module → List ℕ → Status → Type 0
RefusesStimulus m bytes status = (status ≡ Memory) ⊎ TellsStimulusFault m bytes status

-- the status tells that a trace of so many events and seeds is too long
pub record TellsNoTrace (m : Module) (events seeds : ℕ) (status : Status) : Type 0 where
  pub cause : TraceRefusal
  pub refused : IsUntraced m events seeds cause
  pub status_is : status ≡ trace_status cause

-- ---- what is read and written

-- the document of the netlist's file, and the library
pub record SimReads (asked : SimFiles) (told : Option Files) : Type 0 where
  pub netlist : List ℕ
  pub library : List ℕ
  pub doc : Doc
  pub lib : Lib
  pub netlist_told : Tells told asked.netlist netlist
  pub library_told : Tells told asked.library library
  pub netlist_short : length netlist ≤ 16777216
  pub library_short : length library ≤ 16777216
  pub reads : Reads netlist doc
  pub library_reads : LibReads library lib

-- with it the bytes of the stimulus
pub record SimInput (asked : SimFiles) (told : Option Files) : Type 0 where
  pub read : SimReads asked told
  pub stimulus : List ℕ
  pub stimulus_told : Tells told asked.stimulus stimulus
  pub stimulus_short : length stimulus ≤ 16777216

-- what sim writes: the text of the traces
pub record SimWrites (asked : SimFiles) (told : Option Files) (texts : List (List ℕ × List ℕ)) : Type 0 where
  pub input : SimInput asked told
  pub trace : List ℕ
  pub simulated : IsSimulated input.read.doc input.read.lib input.stimulus asked.seeds trace
  pub texts_are : texts ≡ (asked.trace, trace) ∷ []

-- ---- why what was read stops sim

-- the text of the netlist is none
pub record SimNetlistIsNone (asked : SimFiles) (told : Option Files) (status : Status) : Type 0 where
  pub netlist : List ℕ
  pub netlist_told : Tells told asked.netlist netlist
  pub netlist_short : length netlist ≤ 16777216
  pub tells : TellsFault netlist status

-- the text of the library is none, and the netlist's is one
pub record SimLibraryIsNone (asked : SimFiles) (told : Option Files) (status : Status) : Type 0 where
  pub netlist : List ℕ
  pub library : List ℕ
  pub doc : Doc
  pub netlist_told : Tells told asked.netlist netlist
  pub library_told : Tells told asked.library library
  pub netlist_short : length netlist ≤ 16777216
  pub library_short : length library ≤ 16777216
  pub reads : Reads netlist doc
  pub tells : TellsLibraryFault library status

-- the document means no design, or its memory cells make no memories
pub record SimHasNoSubject (asked : SimFiles) (told : Option Files) (status : Status) : Type 0 where
  pub read : SimReads asked told
  pub tells : TellsNoSubject read.doc read.lib status

-- the stimulus has a fault
pub record SimStimulusIsNone (asked : SimFiles) (told : Option Files) (status : Status) : Type 0 where
  pub input : SimInput asked told
  pub subject : Module
  pub is_subject : IsSubject input.read.lib input.read.doc subject
  pub tells : TellsStimulusFault subject input.stimulus status

-- the trace is too long
pub record SimHasNoTrace (asked : SimFiles) (told : Option Files) (status : Status) : Type 0 where
  pub input : SimInput asked told
  pub subject : Module
  pub is_subject : IsSubject input.read.lib input.read.doc subject
  pub events : List Event
  pub has : HasEvents subject input.stimulus events
  pub tells : TellsNoTrace subject (length events) asked.seeds status

abbrev pub SimStops : SimFiles → Option Files → Status → Type 0
SimStops asked told status =
    SimNetlistIsNone asked told status ⊎ (SimLibraryIsNone asked told status ⊎ (SimHasNoSubject asked told status ⊎ (SimStimulusIsNone asked told status ⊎ SimHasNoTrace asked told status)))

-- ---- what is needed

-- the stimulus has events for the module, and their trace is not too long
abbrev pub CanTrace : Module → List ℕ → ℕ → Type 0
CanTrace m stimulus seeds = (events : List Event) × (HasEvents m stimulus events × (text_bytes m (length events) seeds ≤ 67108864))

-- nothing in the files is in the way
pub record SimFits (asked : SimFiles) (files : Files) : Type 0 where
  pub netlist : List ℕ
  pub library : List ℕ
  pub stimulus : List ℕ
  pub doc : Doc
  pub lib : Lib
  pub netlist_there : get files asked.netlist ≡ Some netlist
  pub library_there : get files asked.library ≡ Some library
  pub stimulus_there : get files asked.stimulus ≡ Some stimulus
  pub netlist_short : length netlist ≤ 16777216
  pub library_short : length library ≤ 16777216
  pub stimulus_short : length stimulus ≤ 16777216
  pub reads : Reads netlist doc
  pub within : IsWithinLimits netlist doc
  pub library_reads : LibReads library lib
  pub library_within : IsTaken lib
  -- nothing refuses what the files read as
  pub unrefused : (doc : Doc) (lib : Lib) (f : WholeFault) → Reads netlist doc → LibReads library lib → IsFault doc lib f → f ≡ whole.Memory
  pub traced : (doc : Doc) (lib : Lib) (m : Module) → Reads netlist doc → LibReads library lib → IsSubject lib doc m → CanTrace m stimulus asked.seeds

-- ---- files that are too long

-- the bytes read as a library that this program takes
pub record HasLibrary (bytes : List ℕ) : Type 0 where
  pub lib : Lib
  pub reads : LibReads bytes lib
  pub within : IsTaken lib

pub record HasLongLibrary (asked : SimFiles) (files : Files) : Type 0 where
  pub library : List ℕ
  pub library_there : get files asked.library ≡ Some library
  pub long : 16777216 < length library

-- the stimulus is too long, and nothing that is read before it is refused
pub record HasLongStimulus (asked : SimFiles) (files : Files) (netlist : List ℕ) : Type 0 where
  pub library : List ℕ
  pub stimulus : List ℕ
  pub library_there : get files asked.library ≡ Some library
  pub stimulus_there : get files asked.stimulus ≡ Some stimulus
  pub long : 16777216 < length stimulus
  pub takes : HasLibrary library
  pub unrefused : (doc : Doc) (lib : Lib) (f : WholeFault) → Reads netlist doc → LibReads library lib → IsFault doc lib f → f ≡ whole.Memory

pub record HasLongInput (asked : SimFiles) (files : Files) : Type 0 where
  pub netlist : List ℕ
  pub netlist_there : get files asked.netlist ≡ Some netlist
  pub long : (16777216 < length netlist) ⊎ (HasText netlist × (HasLongLibrary asked files ⊎ HasLongStimulus asked files netlist))
