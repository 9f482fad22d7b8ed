-- The outcome of sim at each place where it may end.
use Rattle.std.proofs.Common.{◌≡◌, ℕ, ◌<◌, ◌≤◌, List, [], ◌∷◌, length, min, Some, Option, Result, Ok as IsOk, Err, ◌⊎◌, arith, inl, inr, refl, subst, sym, ◌∙◌, ap}
use Rattle.std.specs.FinMap.{get}
use Rattle.flow_io.specs.Files.{Files, Tells, HasAtLeast}
use Rattle.flow_io.specs.Causes.{Rose}
use Rattle.flow_io.specs.declared.desk.DeskFault.{DeskFault}
use Rattle.flow_io.specs.declared.desk.DeskFault.TheVariants as faults
use Rattle.lib_core.specs.declared.library.Library.{Library as Lib}
use Rattle.lib_read.specs.Reads.{LibReads}
use Rattle.lib_read.specs.Limits.{IsWithinLimits as IsTaken}
use Rattle.lib_tree.specs.declared.fault.LibCode.{LibCode}
use Rattle.net_core.specs.declared.bits.Event.{Event}
use Rattle.net_core.specs.declared.modules.Module.{Module}
use Rattle.net_whole.specs.declared.fault.WholeFault.{WholeFault}
use Rattle.net_whole.specs.declared.fault.WholeFault.TheVariants as whole
use Rattle.net_whole.specs.Whole.{IsFault}
use Rattle.rtlil_text.specs.declared.doc.Doc.{Doc}
use Rattle.rtlil_text.specs.Reads.{Reads}
use Rattle.rtlil_text.specs.Text.{IsWithinLimits}
use Rattle.stim_text.specs.declared.fault.StimCode.{StimCode}
use Rattle.stim_text.specs.declared.fault.StimFault.{StimFault}
use Rattle.trace_text.specs.Lengths.{text_bytes, capped}
use Rattle.sim_flow.specs.Simulates.{IsSubject, HasEvents, HasFault, IsUntraced}
use Rattle.sim_flow.specs.declared.tracing.TraceRefusal.{TraceRefusal}
use Rattle.sim_flow.specs.declared.tracing.TraceRefusal.TheVariants as untraced
use Rattle.flow_top.specs.Asked.{SimFiles, Sim}
use Rattle.flow_top.specs.Outcome.{Outcome, Look, HasLongCause, HasLimitCause, HasRefusalCause, FilesAfter}
use Rattle.flow_top.specs.Reading.{TellsFault}
use Rattle.flow_top.specs.Simulating.{SimReads, SimInput, SimWrites, SimStops, SimNetlistIsNone, SimLibraryIsNone, SimHasNoSubject, SimStimulusIsNone, SimHasNoTrace, SimFits, CanTrace, HasLongInput, HasLongLibrary, HasLongStimulus, TellsNoTrace, whole_status, trace_status}
use Rattle.flow_top.specs.SimStopping.{SimStopped}
use Rattle.flow_top.specs.Statuses.{status_of_write}
use Rattle.flow_top.specs.Texts.{put_all}
use Rattle.flow_top.specs.WriteStops.{WriteStops}
use Rattle.flow_top.specs.declared.status.Counted.{Counted}
use Rattle.flow_top.specs.declared.status.DesignCode.{DesignCode}
use Rattle.flow_top.specs.declared.status.Status.{Status}
use Rattle.flow_top.specs.declared.status.Status.TheVariants.{Ok, Usage, ReadFault, WriteFault, Design, Library, NoFit, Limit, Memory, Stimulus}
use Rattle.flow_top.proofs.OutcomeLemmas.{told_is, too_long, short_read}

-- ---- files that are too long

-- a file that was read is not too long
long_netlist : (asked : SimFiles) (told : Option Files) (files : Files) (netlist held : List ℕ) → told ≡ Some files → Tells told asked.netlist netlist → length netlist ≤ 16777216 → get files asked.netlist ≡ Some held → 16777216 < length held → ⊥
long_netlist asked told files netlist held is tells short there long = short_read told files asked.netlist netlist held is tells short there long

long_library : (asked : SimFiles) (told : Option Files) (files : Files) (library : List ℕ) → told ≡ Some files → Tells told asked.library library → length library ≤ 16777216 → HasLongLibrary asked files → ⊥
long_library asked told files library is tells short long = short_read told files asked.library library long.library is tells short long.library_there long.long

-- where the netlist's text is none, no file is too long whose turn comes
none_not_long : (asked : SimFiles) (told : Option Files) (files : Files) (status : Status) → told ≡ Some files → SimNetlistIsNone asked told status → HasLongInput asked files → ⊥
none_not_long asked told files status is none long =
    elim long.long [
      | inl l ↦ long_netlist asked told files none.netlist long.netlist is none.netlist_told none.netlist_short long.netlist_there l
      | inr (text, rest) ↦
          let e : long.netlist ≡ none.netlist = told_is told files asked.netlist none.netlist long.netlist is none.netlist_told long.netlist_there in
          none.tells.is_none.unread text.doc (subst (λ b. Reads b text.doc) e text.reads) (subst (λ b. IsWithinLimits b text.doc) e text.within)
    ]

library_not_long : (asked : SimFiles) (told : Option Files) (files : Files) (status : Status) → told ≡ Some files → SimLibraryIsNone asked told status → HasLongInput asked files → ⊥
library_not_long asked told files status is none long =
    elim long.long [
      | inl l ↦ long_netlist asked told files none.netlist long.netlist is none.netlist_told none.netlist_short long.netlist_there l
      | inr (text, inl l) ↦ long_library asked told files none.library is none.library_told none.library_short l
      | inr (text, inr s) ↦
          let e : s.library ≡ none.library = told_is told files asked.library none.library s.library is none.library_told s.library_there in
          none.tells.is_none.unread s.takes.lib (subst (λ b. LibReads b s.takes.lib) e s.takes.reads) s.takes.within
    ]

-- the cause of a refusal other than want of memory
no_fault : (asked : SimFiles) (told : Option Files) (files : Files) (netlist library : List ℕ) (read : SimReads asked told) (cause : WholeFault)
    → told ≡ Some files → get files asked.netlist ≡ Some netlist → get files asked.library ≡ Some library
    → ((doc : Doc) (lib : Lib) (f : WholeFault) → Reads netlist doc → LibReads library lib → IsFault doc lib f → f ≡ whole.Memory)
    → IsFault read.doc read.lib cause → cause ≡ whole.Memory
no_fault asked told files netlist library read cause is netlist_there library_there unrefused refused =
    let n : netlist ≡ read.netlist = told_is told files asked.netlist read.netlist netlist is read.netlist_told netlist_there in
    let l : library ≡ read.library = told_is told files asked.library read.library library is read.library_told library_there in
    unrefused read.doc read.lib cause (subst (λ b. Reads b read.doc) (sym n) read.reads) (subst (λ b. LibReads b read.lib) (sym l) read.library_reads) refused

subject_not_long : (asked : SimFiles) (told : Option Files) (files : Files) (status : Status) → told ≡ Some files → SimHasNoSubject asked told status → HasLongInput asked files → status ≡ Memory
subject_not_long asked told files status is none long =
    elim long.long [
      | inl l ↦ absurd (long_netlist asked told files none.read.netlist long.netlist is none.read.netlist_told none.read.netlist_short long.netlist_there l)
      | inr (text, inl l) ↦ absurd (long_library asked told files none.read.library is none.read.library_told none.read.library_short l)
      | inr (text, inr s) ↦ none.tells.status_is ∙ ap whole_status (no_fault asked told files long.netlist s.library none.read none.tells.cause is long.netlist_there s.library_there s.unrefused none.tells.refused)
    ]

-- where all files were read none is too long
input_not_long : (asked : SimFiles) (told : Option Files) (files : Files) → told ≡ Some files → SimInput asked told → HasLongInput asked files → ⊥
input_not_long asked told files is input long =
    elim long.long [
      | inl l ↦ long_netlist asked told files input.read.netlist long.netlist is input.read.netlist_told input.read.netlist_short long.netlist_there l
      | inr (text, inl l) ↦ long_library asked told files input.read.library is input.read.library_told input.read.library_short l
      | inr (text, inr s) ↦ short_read told files asked.stimulus input.stimulus s.stimulus is input.stimulus_told input.stimulus_short s.stimulus_there s.long
    ]

stops_for_long : (asked : SimFiles) (told : Option Files) (files : Files) (status : Status) → told ≡ Some files → SimStops asked told status → HasLongInput asked files → status ≡ Memory
stops_for_long asked told files status is stops long =
    elim stops [
      | inl none ↦ absurd (none_not_long asked told files status is none long)
      | inr (inl none) ↦ absurd (library_not_long asked told files status is none long)
      | inr (inr (inl none)) ↦ subject_not_long asked told files status is none long
      | inr (inr (inr (inl none))) ↦ absurd (input_not_long asked told files is none.input long)
      | inr (inr (inr (inr none))) ↦ absurd (input_not_long asked told files is none.input long)
    ]

-- ---- where nothing is in the way, what was read stops the command for want of memory alone

free_of_netlist : (asked : SimFiles) (told : Option Files) (files : Files) (status : Status) → told ≡ Some files → SimFits asked files → SimNetlistIsNone asked told status → ⊥
free_of_netlist asked told files status is fits none =
    let e : fits.netlist ≡ none.netlist = told_is told files asked.netlist none.netlist fits.netlist is none.netlist_told fits.netlist_there in
    none.tells.is_none.unread fits.doc (subst (λ b. Reads b fits.doc) e fits.reads) (subst (λ b. IsWithinLimits b fits.doc) e fits.within)

free_of_library : (asked : SimFiles) (told : Option Files) (files : Files) (status : Status) → told ≡ Some files → SimFits asked files → SimLibraryIsNone asked told status → ⊥
free_of_library asked told files status is fits none =
    let e : fits.library ≡ none.library = told_is told files asked.library none.library fits.library is none.library_told fits.library_there in
    none.tells.is_none.unread fits.lib (subst (λ b. LibReads b fits.lib) e fits.library_reads) fits.library_within

subject_wants : (asked : SimFiles) (told : Option Files) (files : Files) (status : Status) → told ≡ Some files → SimFits asked files → SimHasNoSubject asked told status → status ≡ Memory
subject_wants asked told files status is fits none =
    none.tells.status_is ∙ ap whole_status (no_fault asked told files fits.netlist fits.library none.read none.tells.cause is fits.netlist_there fits.library_there fits.unrefused none.tells.refused)

-- the stimulus of files that fit has events for the module, and their trace is not too long
can_trace : (asked : SimFiles) (told : Option Files) (files : Files) (input : SimInput asked told) (m : Module) → told ≡ Some files → SimFits asked files → IsSubject input.read.lib input.read.doc m → CanTrace m input.stimulus asked.seeds
can_trace asked told files input m is fits subject =
    let read = input.read in
    let n : fits.netlist ≡ read.netlist = told_is told files asked.netlist read.netlist fits.netlist is read.netlist_told fits.netlist_there in
    let l : fits.library ≡ read.library = told_is told files asked.library read.library fits.library is read.library_told fits.library_there in
    let s : fits.stimulus ≡ input.stimulus = told_is told files asked.stimulus input.stimulus fits.stimulus is input.stimulus_told fits.stimulus_there in
    subst (λ b. CanTrace m b asked.seeds) s
    (fits.traced read.doc read.lib m (subst (λ b. Reads b read.doc) (sym n) read.reads) (subst (λ b. LibReads b read.lib) (sym l) read.library_reads) subject)

no_event_fault : (m : Module) (stim : List ℕ) (events : List Event) (f : StimFault) → HasEvents m stim events → HasFault m stim f → ⊥
no_event_fault m stim events f has fault =
    let e : ◌≡◌ {A = Result (List Event) StimFault} (IsOk events) (Err f) = sym has ∙ fault in
    cc

same_events : (m : Module) (stim : List ℕ) (a b : List Event) → HasEvents m stim a → HasEvents m stim b → a ≡ b
same_events m stim a b one two =
    let e : ◌≡◌ {A = Result (List Event) StimFault} (IsOk a) (IsOk b) = sym one ∙ two in
    cc

free_of_stimulus : (asked : SimFiles) (told : Option Files) (files : Files) (status : Status) → told ≡ Some files → SimFits asked files → SimStimulusIsNone asked told status → ⊥
free_of_stimulus asked told files status is fits none =
    let (events, (has, short)) = can_trace asked told files none.input none.subject is fits none.is_subject in
    no_event_fault none.subject none.input.stimulus events none.tells.fault has none.tells.has

not_over : (n seen : ℕ) → n ≤ 67108864 → seen ≡ capped n → 67108864 < seen → ⊥
not_over n seen few e over = omega (arith, few, e, over)

untraced_wants : (m : Module) (events seeds : ℕ) (cause : TraceRefusal) → text_bytes m events seeds ≤ 67108864 → IsUntraced m events seeds cause → cause ≡ untraced.Memory
untraced_wants m events seeds untraced.Memory few refused = refl
untraced_wants m events seeds (untraced.Long seen) few refused = absurd (not_over (text_bytes m events seeds) seen few refused.0 refused.1)

trace_wants : (asked : SimFiles) (told : Option Files) (files : Files) (status : Status) → told ≡ Some files → SimFits asked files → SimHasNoTrace asked told status → status ≡ Memory
trace_wants asked told files status is fits none =
    let (events, (has, short)) = can_trace asked told files none.input none.subject is fits none.is_subject in
    let same : events ≡ none.events = same_events none.subject none.input.stimulus events none.events has none.has in
    let few : text_bytes none.subject (length none.events) asked.seeds ≤ 67108864 = subst (λ (es : List Event). text_bytes none.subject (length es) asked.seeds ≤ 67108864) same short in
    none.tells.status_is ∙ ap trace_status (untraced_wants none.subject (length none.events) asked.seeds none.tells.cause few none.tells.refused)

stops_for_want : (asked : SimFiles) (told : Option Files) (files : Files) (status : Status) → told ≡ Some files → SimFits asked files → SimStops asked told status → status ≡ Memory
stops_for_want asked told files status is fits stops =
    elim stops [
      | inl none ↦ absurd (free_of_netlist asked told files status is fits none)
      | inr (inl none) ↦ absurd (free_of_library asked told files status is fits none)
      | inr (inr (inl none)) ↦ subject_wants asked told files status is fits none
      | inr (inr (inr (inl none))) ↦ absurd (free_of_stimulus asked told files status is fits none)
      | inr (inr (inr (inr none))) ↦ trace_wants asked told files status is fits none
    ]

-- a file that is too long is in the way
long_in_the_way : (asked : SimFiles) (told : Option Files) (files : Files) (counts : Counted) (seen : ℕ) → told ≡ Some files → SimFits asked files → HasLongCause (Sim asked) told counts seen → ⊥
long_in_the_way asked told files counts seen is fits cause =
    elim cause.1.1.1.0 [
      | inl e ↦ too_long told files asked.netlist fits.netlist seen is fits.netlist_there fits.netlist_short cause.1.0 (subst (λ n. HasAtLeast told n seen) e cause.1.1.1.1)
      | inr (inl e) ↦ too_long told files asked.library fits.library seen is fits.library_there fits.library_short cause.1.0 (subst (λ n. HasAtLeast told n seen) e cause.1.1.1.1)
      | inr (inr e) ↦ too_long told files asked.stimulus fits.stimulus seen is fits.stimulus_there fits.stimulus_short cause.1.0 (subst (λ n. HasAtLeast told n seen) e cause.1.1.1.1)
    ]

-- ---- outcomes

limit_is_no_want : (counts : Counted) (seen : ℕ) → Limit counts seen ≡ Memory → ⊥
limit_is_no_want counts seen e = cc

design_is_no_want : (inside name : List ℕ) (line : ℕ) (code : DesignCode) → Design inside name line code ≡ Memory → ⊥
design_is_no_want inside name line code e = cc

library_is_no_want : (line : ℕ) (code : LibCode) → Library line code ≡ Memory → ⊥
library_is_no_want line code e = cc

stimulus_is_no_want : (line : ℕ) (code : StimCode) → Stimulus line code ≡ Memory → ⊥
stimulus_is_no_want line code e = cc

outcome_memory : (asked : SimFiles) (before after : Look) → after.files ≡ before.files → Outcome (Sim asked) before after Memory
outcome_memory asked before after stay =
    record {
      understood = λ e. cc;
      read_fault = λ e. cc;
      write_fault = λ e. cc;
      limit = tt;
      long_file = λ files told long. tt;
      refusal = tt;
      files = inl stay;
      complete = λ files free. tt;
    }

outcome_read_fault : (asked : SimFiles) (before after : Look) → after.files ≡ before.files → Rose before.reads after.reads → Outcome (Sim asked) before after ReadFault
outcome_read_fault asked before after stay rose =
    record {
      understood = λ e. cc;
      read_fault = λ e. rose;
      write_fault = λ e. cc;
      limit = tt;
      long_file = λ files told long. tt;
      refusal = tt;
      files = stay;
      complete = λ files free. absurd (free.reads rose);
    }

outcome_limit : (asked : SimFiles) (before after : Look) (counts : Counted) (seen : ℕ) → HasLimitCause (Sim asked) before.files (Limit counts seen) → after.files ≡ before.files → Outcome (Sim asked) before after (Limit counts seen)
outcome_limit asked before after counts seen cause stay =
    record {
      understood = λ e. cc;
      read_fault = λ e. cc;
      write_fault = λ e. cc;
      limit = cause;
      long_file = λ files told long. tt;
      refusal = tt;
      files = stay;
      complete = λ files free. elim cause [
        | inl long ↦ absurd (long_in_the_way asked before.files files counts seen free.told free.fits long)
        | inr stops ↦ absurd (limit_is_no_want counts seen (stops_for_want asked before.files files (Limit counts seen) free.told free.fits stops))
      ];
    }

outcome_design : (asked : SimFiles) (before after : Look) (inside name : List ℕ) (line_number : ℕ) (code : DesignCode) → SimStops asked before.files (Design inside name line_number code) → after.files ≡ before.files → Outcome (Sim asked) before after (Design inside name line_number code)
outcome_design asked before after inside name line_number code stops stay =
    record {
      understood = λ e. cc;
      read_fault = λ e. cc;
      write_fault = λ e. cc;
      limit = tt;
      long_file = λ files told long. absurd (design_is_no_want inside name line_number code (stops_for_long asked before.files files (Design inside name line_number code) told stops long));
      refusal = stops;
      files = stay;
      complete = λ files free. absurd (design_is_no_want inside name line_number code (stops_for_want asked before.files files (Design inside name line_number code) free.told free.fits stops));
    }

outcome_library : (asked : SimFiles) (before after : Look) (line_number : ℕ) (code : LibCode) → SimStops asked before.files (Library line_number code) → after.files ≡ before.files → Outcome (Sim asked) before after (Library line_number code)
outcome_library asked before after line_number code stops stay =
    record {
      understood = λ e. cc;
      read_fault = λ e. cc;
      write_fault = λ e. cc;
      limit = tt;
      long_file = λ files told long. absurd (library_is_no_want line_number code (stops_for_long asked before.files files (Library line_number code) told stops long));
      refusal = stops;
      files = stay;
      complete = λ files free. absurd (library_is_no_want line_number code (stops_for_want asked before.files files (Library line_number code) free.told free.fits stops));
    }

outcome_stimulus : (asked : SimFiles) (before after : Look) (line_number : ℕ) (code : StimCode) → SimStops asked before.files (Stimulus line_number code) → after.files ≡ before.files → Outcome (Sim asked) before after (Stimulus line_number code)
outcome_stimulus asked before after line_number code stops stay =
    record {
      understood = λ e. cc;
      read_fault = λ e. cc;
      write_fault = λ e. cc;
      limit = tt;
      long_file = λ files told long. absurd (stimulus_is_no_want line_number code (stops_for_long asked before.files files (Stimulus line_number code) told stops long));
      refusal = stops;
      files = stay;
      complete = λ files free. absurd (stimulus_is_no_want line_number code (stops_for_want asked before.files files (Stimulus line_number code) free.told free.fits stops));
    }

-- the command stopped before it wrote
pub sim_stopped : (asked : SimFiles) (before after : Look) (status : Status) → SimStopped asked before.files before.reads after.reads status → after.files ≡ before.files → Outcome (Sim asked) before after status
sim_stopped asked before after Ok stopped stay = absurd stopped
sim_stopped asked before after Usage stopped stay = absurd stopped
sim_stopped asked before after WriteFault stopped stay = absurd stopped
sim_stopped asked before after (NoFit inside memory) stopped stay = absurd stopped
sim_stopped asked before after Memory stopped stay = outcome_memory asked before after stay
sim_stopped asked before after ReadFault stopped stay = outcome_read_fault asked before after stay stopped
sim_stopped asked before after (Limit counts seen) stopped stay = outcome_limit asked before after counts seen stopped stay
sim_stopped asked before after (Design inside name line_number code) stopped stay = outcome_design asked before after inside name line_number code stopped stay
sim_stopped asked before after (Library line_number code) stopped stay = outcome_library asked before after line_number code stopped stay
sim_stopped asked before after (Stimulus line_number code) stopped stay = outcome_stimulus asked before after line_number code stopped stay

-- the text is written
pub sim_written : (asked : SimFiles) (before after : Look) (texts : List (List ℕ × List ℕ)) → SimWrites asked before.files texts → after.files ≡ put_all before.files texts → Outcome (Sim asked) before after Ok
sim_written asked before after texts may written =
    record {
      understood = λ e. cc;
      read_fault = λ e. cc;
      write_fault = λ e. cc;
      limit = tt;
      long_file = λ files told long. absurd (input_not_long asked before.files files told may.input long);
      refusal = tt;
      files = (texts, (may, written));
      complete = λ files free. tt;
    }

-- the write stops
pub sim_broken : (asked : SimFiles) (before after : Look) (writes : ℕ) (texts : List (List ℕ × List ℕ)) (fault : DeskFault) → before.writes ≤ writes → SimWrites asked before.files texts → WriteStops before.files after.files texts writes after.writes fault → Outcome (Sim asked) before after (status_of_write fault)
sim_broken asked before after writes texts faults.Failed later may stops =
    record {
      understood = λ e. cc;
      read_fault = λ e. cc;
      write_fault = λ e. omega (arith, later, stops.0);
      limit = tt;
      long_file = λ files told long. absurd (input_not_long asked before.files files told may.input long);
      refusal = tt;
      files = (texts, (may, stops.1));
      complete = λ files free. absurd (free.writes (omega (arith, later, stops.0)));
    }
sim_broken asked before after writes texts (faults.TooLong seen) later may stops = absurd stops
sim_broken asked before after writes texts faults.Memory later may stops =
    record {
      understood = λ e. cc;
      read_fault = λ e. cc;
      write_fault = λ e. cc;
      limit = tt;
      long_file = λ files told long. tt;
      refusal = tt;
      files = inr (texts, (may, stops));
      complete = λ files free. tt;
    }
