-- Why sim stopped before it wrote, by what was read.
use Rattle.std.proofs.Common.{◌≡◌, ℕ, ◌<◌, ◌≤◌, List, [], ◌∷◌, length, Option, ◌⊎◌, inl, inr, refl, subst, sym, ap, ◌∙◌}
use Rattle.flow_io.specs.Files.{Files, Tells}
use Rattle.lib_core.specs.declared.library.Library.{Library as Lib}
use Rattle.lib_tree.specs.declared.fault.LibCode.{LibCode}
use Rattle.lib_tree.specs.declared.fault.LibCode.TheVariants as library
use Rattle.lib_read.specs.Reads.{LibReads}
use Rattle.net_core.specs.declared.bits.Event.{Event}
use Rattle.net_core.specs.declared.modules.Module.{Module}
use Rattle.net_wires.specs.declared.breach.BuildCode.{BuildCode}
use Rattle.net_wires.specs.declared.breach.BuildCode.TheVariants as build
use Rattle.mem_collect.specs.declared.fault.CollectCode.{CollectCode}
use Rattle.mem_collect.specs.declared.fault.CollectCode.TheVariants as collect
use Rattle.net_whole.specs.declared.fault.WholeFault.{WholeFault}
use Rattle.net_whole.specs.declared.fault.WholeFault.TheVariants as whole
use Rattle.picked_run.specs.Conditions.{CanRun}
use Rattle.rtlil_text.specs.declared.doc.Doc.{Doc}
use Rattle.rtlil_text.specs.declared.fault.TextCode.{TextCode}
use Rattle.rtlil_text.specs.declared.fault.TextCode.TheVariants as text
use Rattle.rtlil_text.specs.Reads.{Reads}
use Rattle.stim_text.specs.declared.fault.StimCode.{StimCode}
use Rattle.stim_text.specs.declared.fault.StimCode.TheVariants as stimulus
use Rattle.sim_flow.specs.Chosen.{simulated}
use Rattle.sim_flow.specs.Simulates.{IsSubject, HasEvents, AreEventsOf, AreTraces, IsSimulated}
use Rattle.sim_flow.specs.declared.tracing.TraceRefusal.{TraceRefusal}
use Rattle.sim_flow.specs.declared.tracing.TraceRefusal.TheVariants as untraced
use Rattle.flow_top.specs.Asked.{SimFiles}
use Rattle.flow_top.specs.Reading.{RefusesText, status_by}
use Rattle.flow_top.specs.Refusing.{RefusesLibrary, library_status_by, build_status_by, collect_status_by}
use Rattle.flow_top.specs.Simulating.{SimReads, SimInput, SimStops, SimWrites, TellsNoSubject, RefusesStimulus, TellsNoTrace, whole_status, stimulus_status_by, trace_status}
use Rattle.flow_top.specs.SimStopping.{SimStopped, SimFound}
use Rattle.flow_top.specs.declared.simulating.Subject.{Subject}
use Rattle.flow_top.specs.declared.status.Status.{Status}
use Rattle.flow_top.specs.declared.status.Status.TheVariants.{Ok, Usage, ReadFault, WriteFault, Design, Library, NoFit, Limit, Memory, Stimulus}

by_text : (asked : SimFiles) (told : Option Files) (before now : ℕ) (code : TextCode) (line seen : ℕ) → SimStops asked told (status_by code line seen) → SimStopped asked told before now (status_by code line seen)
by_text asked told before now text.Memory line seen stops = tt
by_text asked told before now text.Limit line seen stops = inr stops
by_text asked told before now text.Token line seen stops = stops
by_text asked told before now text.Grammar line seen stops = stops
by_text asked told before now text.Process line seen stops = stops

by_library : (asked : SimFiles) (told : Option Files) (before now : ℕ) (code : LibCode) (line seen : ℕ) → SimStops asked told (library_status_by code line seen) → SimStopped asked told before now (library_status_by code line seen)
by_library asked told before now library.Memory line seen stops = tt
by_library asked told before now library.Limit line seen stops = inr stops
by_library asked told before now library.Token line seen stops = stops
by_library asked told before now library.Unclosed line seen stops = stops
by_library asked told before now library.UnknownWord line seen stops = stops
by_library asked told before now library.NotForKind line seen stops = stops
by_library asked told before now library.Twice line seen stops = stops
by_library asked told before now library.Missing line seen stops = stops
by_library asked told before now library.BadWidths line seen stops = stops
by_library asked told before now library.BadNumber line seen stops = stops

by_build : (asked : SimFiles) (told : Option Files) (before now : ℕ) (code : BuildCode) (inside name : List ℕ) (seen : ℕ) → SimStops asked told (build_status_by code inside name seen) → SimStopped asked told before now (build_status_by code inside name seen)
by_build asked told before now build.Memory inside name seen stops = tt
by_build asked told before now build.Limit inside name seen stops = inr stops
by_build asked told before now build.NoWire inside name seen stops = stops
by_build asked told before now build.Range inside name seen stops = stops
by_build asked told before now build.WidthDiffers inside name seen stops = stops
by_build asked told before now build.TwoDrivers inside name seen stops = stops
by_build asked told before now build.UnknownCell inside name seen stops = stops
by_build asked told before now build.MissingParam inside name seen stops = stops
by_build asked told before now build.ClockRoot inside name seen stops = stops
by_build asked told before now build.AsyncWrite inside name seen stops = stops
by_build asked told before now build.CombLoop inside name seen stops = stops
by_build asked told before now build.Inout inside name seen stops = stops
by_build asked told before now build.BadRam inside name seen stops = stops

by_collect : (asked : SimFiles) (told : Option Files) (before now : ℕ) (code : CollectCode) (inside name : List ℕ) → SimStops asked told (collect_status_by code inside name) → SimStopped asked told before now (collect_status_by code inside name)
by_collect asked told before now collect.Memory inside name stops = tt
by_collect asked told before now collect.NoMemory inside name stops = stops
by_collect asked told before now collect.PortIdTwice inside name stops = stops
by_collect asked told before now collect.NotConstant inside name stops = stops
by_collect asked told before now collect.MasksOverlap inside name stops = stops
by_collect asked told before now collect.BadWidth inside name stops = stops

by_whole : (asked : SimFiles) (told : Option Files) (before now : ℕ) (cause : WholeFault) → SimStops asked told (whole_status cause) → SimStopped asked told before now (whole_status cause)
by_whole asked told before now whole.Memory stops = tt
by_whole asked told before now (whole.Build f) stops = by_build asked told before now f.code f.«module» f.name f.seen stops
by_whole asked told before now (whole.Collect f) stops = by_collect asked told before now f.fault.code f.«module» f.fault.name stops

by_stimulus : (asked : SimFiles) (told : Option Files) (before now : ℕ) (code : StimCode) (line seen : ℕ) → SimStops asked told (stimulus_status_by code line seen) → SimStopped asked told before now (stimulus_status_by code line seen)
by_stimulus asked told before now stimulus.Memory line seen stops = tt
by_stimulus asked told before now stimulus.Limit line seen stops = inr stops
by_stimulus asked told before now stimulus.Line line seen stops = stops
by_stimulus asked told before now stimulus.Width line seen stops = stops
by_stimulus asked told before now stimulus.Clock line seen stops = stops

by_trace : (asked : SimFiles) (told : Option Files) (before now : ℕ) (cause : TraceRefusal) → SimStops asked told (trace_status cause) → SimStopped asked told before now (trace_status cause)
by_trace asked told before now untraced.Memory stops = tt
by_trace asked told before now (untraced.Long seen) stops = inr stops

-- the text of the netlist is none
pub netlist_refused : (asked : SimFiles) (told : Option Files) (before now : ℕ) (bytes : List ℕ) (status : Status) → Tells told asked.netlist bytes → length bytes ≤ 16777216 → RefusesText bytes status → SimStopped asked told before now status
netlist_refused asked told before now bytes status tells short (inl e) = subst (λ s. SimStopped asked told before now s) (sym e) tt
netlist_refused asked told before now bytes status tells short (inr refused) =
    subst (λ s. SimStopped asked told before now s) (sym refused.status_is)
    (by_text asked told before now refused.fault.code refused.fault.line refused.fault.seen
    (inl (record { netlist = bytes; netlist_told = tells; netlist_short = short; tells = record { fault = refused.fault; is_none = refused.is_none; status_is = refl } })))

-- the text of the library is none
pub library_refused : (asked : SimFiles) (told : Option Files) (before now : ℕ) (netlist bytes : List ℕ) (doc : Doc) (status : Status)
    → Tells told asked.netlist netlist → length netlist ≤ 16777216 → Reads netlist doc → Tells told asked.library bytes → length bytes ≤ 16777216 → RefusesLibrary bytes status
    → SimStopped asked told before now status
library_refused asked told before now netlist bytes doc status nt ns reads lt ls (inl e) = subst (λ s. SimStopped asked told before now s) (sym e) tt
library_refused asked told before now netlist bytes doc status nt ns reads lt ls (inr refused) =
    subst (λ s. SimStopped asked told before now s) (sym refused.status_is)
    (by_library asked told before now refused.fault.code refused.fault.line refused.fault.seen
    (inr (inl (record {
      netlist = netlist;
      library = bytes;
      doc = doc;
      netlist_told = nt;
      library_told = lt;
      netlist_short = ns;
      library_short = ls;
      reads = reads;
      tells = record { fault = refused.fault; is_none = refused.is_none; status_is = refl };
    }))))

pub sim_reads : (asked : SimFiles) (told : Option Files) (netlist library : List ℕ) (doc : Doc) (lib : Lib)
    → Tells told asked.netlist netlist → length netlist ≤ 16777216 → Reads netlist doc → Tells told asked.library library → length library ≤ 16777216 → LibReads library lib → SimReads asked told
sim_reads asked told netlist library doc lib nt ns reads lt ls library_reads = record {
  netlist = netlist;
  library = library;
  doc = doc;
  lib = lib;
  netlist_told = nt;
  library_told = lt;
  netlist_short = ns;
  library_short = ls;
  reads = reads;
  library_reads = library_reads;
}

-- the document has no module that is simulated
no_subject : (asked : SimFiles) (told : Option Files) (before now : ℕ) (read : SimReads asked told) (status : Status) → TellsNoSubject read.doc read.lib status → SimStopped asked told before now status
no_subject asked told before now read status refused =
    subst (λ s. SimStopped asked told before now s) (sym refused.status_is)
    (by_whole asked told before now refused.cause
    (inr (inr (inl (record { read = read; tells = record { cause = refused.cause; refused = refused.refused; status_is = refl } })))))

pub subject_refused : (asked : SimFiles) (told : Option Files) (before now : ℕ) (netlist library : List ℕ) (doc : Doc) (lib : Lib) (status : Status)
    → Tells told asked.netlist netlist → length netlist ≤ 16777216 → Reads netlist doc → Tells told asked.library library → length library ≤ 16777216 → LibReads library lib → TellsNoSubject doc lib status
    → SimStopped asked told before now status
subject_refused asked told before now netlist library doc lib status nt ns reads lt ls library_reads refused =
    no_subject asked told before now
    (record {
      netlist = netlist;
      library = library;
      doc = doc;
      lib = lib;
      netlist_told = nt;
      library_told = lt;
      netlist_short = ns;
      library_short = ls;
      reads = reads;
      library_reads = library_reads;
    })
    status refused

pub subject_found : (asked : SimFiles) (told : Option Files) (netlist library : List ℕ) (doc : Doc) (lib : Lib) (m : Module)
    → Tells told asked.netlist netlist → length netlist ≤ 16777216 → Reads netlist doc → Tells told asked.library library → length library ≤ 16777216 → LibReads library lib → IsSubject lib doc m
    → SimFound asked told (record { library = lib; «module» = m })
subject_found asked told netlist library doc lib m nt ns reads lt ls library_reads is = record {
  read = record {
    netlist = netlist;
    library = library;
    doc = doc;
    lib = lib;
    netlist_told = nt;
    library_told = lt;
    netlist_short = ns;
    library_short = ls;
    reads = reads;
    library_reads = library_reads;
  };
  library = refl;
  is_subject = is;
}

input_of : (asked : SimFiles) (told : Option Files) (read : SimReads asked told) (bytes : List ℕ) → Tells told asked.stimulus bytes → length bytes ≤ 16777216 → SimInput asked told
input_of asked told read bytes tells short = record { read = read; stimulus = bytes; stimulus_told = tells; stimulus_short = short }

-- the stimulus has a fault
pub stimulus_refused : (asked : SimFiles) (told : Option Files) (before now : ℕ) (s : Subject) (bytes : List ℕ) (status : Status)
    → SimFound asked told s → Tells told asked.stimulus bytes → length bytes ≤ 16777216 → RefusesStimulus s.«module» bytes status → SimStopped asked told before now status
stimulus_refused asked told before now s bytes status found tells short (inl e) = subst (λ t. SimStopped asked told before now t) (sym e) tt
stimulus_refused asked told before now s bytes status found tells short (inr refused) =
    subst (λ t. SimStopped asked told before now t) (sym refused.status_is)
    (by_stimulus asked told before now refused.fault.code refused.fault.line refused.fault.seen
    (inr (inr (inr (inl (record {
      input = record { read = found.read; stimulus = bytes; stimulus_told = tells; stimulus_short = short };
      subject = s.«module»;
      is_subject = found.is_subject;
      tells = record { fault = refused.fault; has = refused.has; status_is = refl };
    }))))))

-- the trace is too long
pub trace_refused : (asked : SimFiles) (told : Option Files) (before now : ℕ) (s : Subject) (bytes : List ℕ) (events : List Event) (status : Status)
    → SimFound asked told s → Tells told asked.stimulus bytes → length bytes ≤ 16777216 → AreEventsOf s.«module» bytes events → TellsNoTrace s.«module» (length events) asked.seeds status
    → SimStopped asked told before now status
trace_refused asked told before now s bytes events status found tells short has refused =
    subst (λ t. SimStopped asked told before now t) (sym refused.status_is)
    (by_trace asked told before now refused.cause
    (inr (inr (inr (inr (record {
      input = record { read = found.read; stimulus = bytes; stimulus_told = tells; stimulus_short = short };
      subject = s.«module»;
      is_subject = found.is_subject;
      events = events;
      has = has.read;
      tells = record { cause = refused.cause; refused = refused.refused; status_is = refl };
    }))))))

-- the module can run under the library
pub subject_runs : (asked : SimFiles) (told : Option Files) (s : Subject) → SimFound asked told s → CanRun s.library s.«module»
subject_runs asked told s found = subst (λ lib. CanRun lib s.«module») (sym found.library) found.is_subject.runs

-- the module is simulated
pub is_simulated : (lib : Lib) (doc : Doc) (m : Module) (stim : List ℕ) (events : List Event) (seeds : ℕ) (trace : List ℕ) → IsSubject lib doc m → HasEvents m stim events → AreTraces lib m events seeds trace → IsSimulated doc lib stim seeds trace
is_simulated lib doc m stim events seeds trace is has traced = record {
  design = is.design;
  means = is.means;
  events = events;
  reads = subst (λ n. HasEvents n stim events) is.is has;
  traced = subst (λ n. AreTraces lib n events seeds trace) is.is traced;
}

pub sim_made : (asked : SimFiles) (told : Option Files) (s : Subject) (bytes : List ℕ) (events : List Event) (trace : List ℕ)
    → SimFound asked told s → Tells told asked.stimulus bytes → length bytes ≤ 16777216 → AreEventsOf s.«module» bytes events → AreTraces s.library s.«module» events asked.seeds trace
    → SimWrites asked told ((asked.trace, trace) ∷ [])
sim_made asked told s bytes events trace found tells short has traced = record {
  input = record { read = found.read; stimulus = bytes; stimulus_told = tells; stimulus_short = short };
  trace = trace;
  simulated = is_simulated found.read.lib found.read.doc s.«module» bytes events asked.seeds trace found.is_subject has.read (subst (λ lib. AreTraces lib s.«module» events asked.seeds trace) found.library traced);
  texts_are = refl;
}
