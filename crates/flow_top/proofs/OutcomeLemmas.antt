-- The outcome of map at each place where it may end.
use Rattle.std.proofs.Common.{◌≡◌, ℕ, ◌<◌, ◌≤◌, List, [], ◌∷◌, length, Some, None, Option, ◌⊎◌, arith, inl, inr, refl, subst, sym, ◌∙◌, ap}
use Rattle.std.specs.FinMap.{get}
use Rattle.flow_io.specs.Files.{Files, Tells, HasAtLeast}
use Rattle.flow_io.specs.Causes.{Rose}
use Rattle.flow_io.specs.declared.desk.DeskFault.{DeskFault}
use Rattle.flow_io.specs.declared.desk.DeskFault.TheVariants as faults
use Rattle.flow_top.specs.Asked.{MapFiles, Map}
use Rattle.rtlil_text.specs.declared.doc.Doc.{Doc}
use Rattle.rtlil_text.specs.Reads.{Reads}
use Rattle.rtlil_text.specs.Text.{IsWithinLimits}
use Rattle.lib_core.specs.declared.library.Library.{Library as Lib}
use Rattle.lib_read.specs.Reads.{LibReads}
use Rattle.map_flow.specs.Maps.{IsRefused}
use Rattle.map_flow.specs.declared.refusal.MapRefusal.{MapRefusal}
use Rattle.map_flow.specs.declared.refusal.MapRefusal.TheVariants as refusal
use Rattle.flow_top.specs.Outcome.{Outcome, Look, MapReads, MapWrites, MapStops, MapDesignIsNone, MapLibraryIsNone, MapRefuses, MapFits, HasLongFile, HasLongCause, HasLimitCause, HasRefusalCause}
use Rattle.flow_top.specs.Refusing.{map_status}
use Rattle.flow_top.specs.Preparing.{Stopped, Prepared}
use Rattle.flow_top.specs.RefusalLine.{Refused, LineLeft, refusal_line}
use Rattle.flow_top.specs.Statuses.{status_of_write}
use Rattle.flow_top.specs.Texts.{put_all}
use Rattle.flow_top.specs.WriteStops.{WriteStops}
use Rattle.map_flow.specs.declared.map.Made.{Made}
use Rattle.flow_top.specs.declared.status.Counted.{Counted}
use Rattle.flow_top.specs.declared.status.DesignCode.{DesignCode}
use Rattle.lib_tree.specs.declared.fault.LibCode.{LibCode}
use Rattle.flow_top.specs.declared.status.Status.{Status}
use Rattle.flow_top.specs.declared.status.Status.TheVariants.{Ok, Usage, ReadFault, WriteFault, Design, Library, NoFit, Limit, Memory, Stimulus}

pub same_Some : {A : Type 0} (a b : A) → Some a ≡ Some b → a ≡ b
same_Some a b e = cc

-- what was read is what the file holds
pub told_is : (told : Option Files) (files : Files) (name read held : List ℕ) → told ≡ Some files → Tells told name read → get files name ≡ Some held → held ≡ read
told_is None files name read held is tells there = cc
told_is (Some known) files name read held is tells there =
    let same : known ≡ files = same_Some known files is in
    same_Some held read (sym there ∙ subst (λ f. get f name ≡ Some read) same tells)

-- a file of which more was seen than a file may have does not fit
pub too_long : (told : Option Files) (files : Files) (name held : List ℕ) (seen : ℕ) → told ≡ Some files → get files name ≡ Some held → length held ≤ 16777216 → 16777216 < seen → HasAtLeast told name seen → ⊥
too_long None files name held seen is there short long has = cc
too_long (Some known) files name held seen is there short long has =
    let same : known ≡ files = same_Some known files is in
    let e : held ≡ has.0 = same_Some held has.0 (sym there ∙ subst (λ f. get f name ≡ Some has.0) same has.1) in
    let longer : length held < length has.0 = omega (arith, has.2, short, long) in
    let no : length held < length held = subst (λ bytes. length held < length bytes) (sym e) longer in
    omega arith

pub short_read : (told : Option Files) (files : Files) (name read held : List ℕ) → told ≡ Some files → Tells told name read → length read ≤ 16777216 → get files name ≡ Some held → 16777216 < length held → ⊥
short_read told files name read held is tells short there long =
    let e : held ≡ read = told_is told files name read held is tells there in
    let longer : 16777216 < length read = subst (λ bytes. 16777216 < length bytes) e long in
    omega (arith, short, longer)

-- no file is too long where both were read
not_long : (asked : MapFiles) (told : Option Files) (files : Files) (design library : List ℕ) → told ≡ Some files → Tells told asked.design design → Tells told asked.library library → length design ≤ 16777216 → length library ≤ 16777216 → HasLongFile asked files → ⊥
not_long asked told files design library is dt lt ds ls long =
    elim long.long [
      | inl l ↦ short_read told files asked.design design long.design is dt ds long.design_there l
      | inr (other, (there, (l, rest))) ↦ short_read told files asked.library library other is lt ls there l
    ]

-- nor where the design was read and is none
not_long_design : (asked : MapFiles) (told : Option Files) (files : Files) (design : List ℕ) → told ≡ Some files → Tells told asked.design design → length design ≤ 16777216 → ((doc : Doc) → Reads design doc → IsWithinLimits design doc → ⊥) → HasLongFile asked files → ⊥
not_long_design asked told files design is dt ds unread long =
    elim long.long [
      | inl l ↦ short_read told files asked.design design long.design is dt ds long.design_there l
      | inr (other, (there, (l, text))) ↦
          let e : long.design ≡ design = told_is told files asked.design design long.design is dt long.design_there in
          let reads : Reads design text.doc = subst (λ d. Reads d text.doc) e text.reads in
          let within : IsWithinLimits design text.doc = subst (λ d. IsWithinLimits d text.doc) e text.within in
          unread text.doc reads within
    ]

-- where both files were read none is too long
not_long_read : (asked : MapFiles) (told : Option Files) (files : Files) → told ≡ Some files → MapReads asked told → HasLongFile asked files → ⊥
not_long_read asked told files is read long =
    not_long asked told files read.design read.library is read.design_told read.library_told read.design_short read.library_short long

-- nor where what was read stopped the command
stops_not_long : (asked : MapFiles) (told : Option Files) (files : Files) (status : Status) → told ≡ Some files → MapStops asked told status → HasLongFile asked files → ⊥
stops_not_long asked told files status is stops long =
    elim stops [
      | inl none ↦ not_long_design asked told files none.design is none.design_told none.design_short none.tells.is_none.unread long
      | inr (inl none) ↦ not_long asked told files none.design none.library is none.design_told none.library_told none.design_short none.library_short long
      | inr (inr refuses) ↦ not_long_read asked told files is refuses.read long
    ]

-- where nothing is in the way, what was read does not stop the command but for want of memory
free_of_design : (asked : MapFiles) (told : Option Files) (files : Files) (status : Status) → told ≡ Some files → MapFits asked files → MapDesignIsNone asked told status → ⊥
free_of_design asked told files status is fits none =
    let e : fits.design ≡ none.design = told_is told files asked.design none.design fits.design is none.design_told fits.design_there in
    let cannot = none.tells.is_none.unread fits.doc in
    cannot (subst (λ d. Reads d fits.doc) e fits.reads) (subst (λ d. IsWithinLimits d fits.doc) e fits.within)

free_of_library : (asked : MapFiles) (told : Option Files) (files : Files) (status : Status) → told ≡ Some files → MapFits asked files → MapLibraryIsNone asked told status → ⊥
free_of_library asked told files status is fits none =
    let e : fits.library ≡ none.library = told_is told files asked.library none.library fits.library is none.library_told fits.library_there in
    let cannot = none.tells.is_none.unread fits.lib in
    cannot (subst (λ d. LibReads d fits.lib) e fits.library_reads) fits.library_within

refusal_is_want : (asked : MapFiles) (told : Option Files) (files : Files) (status : Status) → told ≡ Some files → MapFits asked files → MapRefuses asked told status → status ≡ Memory
refusal_is_want asked told files status is fits refuses =
    let read = refuses.read in
    let d : fits.design ≡ read.design = told_is told files asked.design read.design fits.design is read.design_told fits.design_there in
    let l : fits.library ≡ read.library = told_is told files asked.library read.library fits.library is read.library_told fits.library_there in
    let reads : Reads fits.design read.doc = subst (λ b. Reads b read.doc) (sym d) read.reads in
    let library_reads : LibReads fits.library read.lib = subst (λ b. LibReads b read.lib) (sym l) read.library_reads in
    let want : refuses.tells.cause ≡ refusal.Memory = fits.unrefused read.doc read.lib refuses.tells.cause reads library_reads refuses.tells.refused in
    refuses.tells.status_is ∙ ap map_status want

stops_for_want : (asked : MapFiles) (told : Option Files) (files : Files) (status : Status) → told ≡ Some files → MapFits asked files → MapStops asked told status → status ≡ Memory
stops_for_want asked told files status is fits stops =
    elim stops [
      | inl none ↦ absurd (free_of_design asked told files status is fits none)
      | inr (inl none) ↦ absurd (free_of_library asked told files status is fits none)
      | inr (inr refuses) ↦ refusal_is_want asked told files status is fits refuses
    ]

-- want of memory
outcome_memory : (asked : MapFiles) (before after : Look) → after.files ≡ before.files → Outcome (Map asked) before after Memory
outcome_memory asked before after stay =
    record {
      understood = λ e. cc;
      read_fault = λ e. cc;
      write_fault = λ e. cc;
      limit = tt;
      long_file = λ files told long. tt;
      refusal = tt;
      files = inl stay;
      complete = λ files free. tt;
    }

outcome_read_fault : (asked : MapFiles) (before after : Look) → after.files ≡ before.files → Rose before.reads after.reads → Outcome (Map asked) before after ReadFault
outcome_read_fault asked before after stay rose =
    record {
      understood = λ e. cc;
      read_fault = λ e. rose;
      write_fault = λ e. cc;
      limit = tt;
      long_file = λ files told long. tt;
      refusal = tt;
      files = stay;
      complete = λ files free. absurd (free.reads rose);
    }

-- a file that is too long is in the way
long_in_the_way : (asked : MapFiles) (told : Option Files) (files : Files) (counts : Counted) (seen : ℕ) → told ≡ Some files → MapFits asked files → HasLongCause (Map asked) told counts seen → ⊥
long_in_the_way asked told files counts seen is fits cause =
    elim cause.1.1.1.0 [
      | inl e ↦ too_long told files asked.design fits.design seen is fits.design_there fits.design_short cause.1.0 (subst (λ n. HasAtLeast told n seen) e cause.1.1.1.1)
      | inr e ↦ too_long told files asked.library fits.library seen is fits.library_there fits.library_short cause.1.0 (subst (λ n. HasAtLeast told n seen) e cause.1.1.1.1)
    ]

limit_is_no_want : (counts : Counted) (seen : ℕ) → Limit counts seen ≡ Memory → ⊥
limit_is_no_want counts seen e = cc

design_is_no_want : (inside name : List ℕ) (line : ℕ) (code : DesignCode) → Design inside name line code ≡ Memory → ⊥
design_is_no_want inside name line code e = cc

library_is_no_want : (line : ℕ) (code : LibCode) → Library line code ≡ Memory → ⊥
library_is_no_want line code e = cc

no_fit_is_no_want : (inside memory : List ℕ) → NoFit inside memory ≡ Memory → ⊥
no_fit_is_no_want inside memory e = cc

-- a limit
outcome_limit : (asked : MapFiles) (before after : Look) (counts : Counted) (seen : ℕ) → HasLimitCause (Map asked) before.files (Limit counts seen) → LineLeft before.files after.files asked.report (refusal_line (Limit counts seen)) before.writes after.writes → Outcome (Map asked) before after (Limit counts seen)
outcome_limit asked before after counts seen cause line =
    record {
      understood = λ e. cc;
      read_fault = λ e. cc;
      write_fault = λ e. cc;
      limit = cause;
      long_file = λ files told long. tt;
      refusal = tt;
      files = line;
      complete = λ files free. elim cause [
        | inl long ↦ absurd (long_in_the_way asked before.files files counts seen free.told free.fits long)
        | inr stops ↦ absurd (limit_is_no_want counts seen (stops_for_want asked before.files files (Limit counts seen) free.told free.fits stops))
      ];
    }

-- a design that is refused
outcome_design : (asked : MapFiles) (before after : Look) (inside name : List ℕ) (line_number : ℕ) (code : DesignCode) → HasRefusalCause (Map asked) before.files (Design inside name line_number code) → LineLeft before.files after.files asked.report (refusal_line (Design inside name line_number code)) before.writes after.writes → Outcome (Map asked) before after (Design inside name line_number code)
outcome_design asked before after inside name line_number code cause line =
    record {
      understood = λ e. cc;
      read_fault = λ e. cc;
      write_fault = λ e. cc;
      limit = tt;
      long_file = λ files told long. absurd (stops_not_long asked before.files files (Design inside name line_number code) told cause long);
      refusal = cause;
      files = line;
      complete = λ files free. absurd (design_is_no_want inside name line_number code (stops_for_want asked before.files files (Design inside name line_number code) free.told free.fits cause));
    }

-- a library that is none
outcome_library : (asked : MapFiles) (before after : Look) (line_number : ℕ) (code : LibCode) → HasRefusalCause (Map asked) before.files (Library line_number code) → LineLeft before.files after.files asked.report (refusal_line (Library line_number code)) before.writes after.writes → Outcome (Map asked) before after (Library line_number code)
outcome_library asked before after line_number code cause line =
    record {
      understood = λ e. cc;
      read_fault = λ e. cc;
      write_fault = λ e. cc;
      limit = tt;
      long_file = λ files told long. absurd (stops_not_long asked before.files files (Library line_number code) told cause long);
      refusal = cause;
      files = line;
      complete = λ files free. absurd (library_is_no_want line_number code (stops_for_want asked before.files files (Library line_number code) free.told free.fits cause));
    }

-- a memory that fits nothing
outcome_no_fit : (asked : MapFiles) (before after : Look) (inside memory : List ℕ) → HasRefusalCause (Map asked) before.files (NoFit inside memory) → LineLeft before.files after.files asked.report (refusal_line (NoFit inside memory)) before.writes after.writes → Outcome (Map asked) before after (NoFit inside memory)
outcome_no_fit asked before after inside memory cause line =
    record {
      understood = λ e. cc;
      read_fault = λ e. cc;
      write_fault = λ e. cc;
      limit = tt;
      long_file = λ files told long. absurd (stops_not_long asked before.files files (NoFit inside memory) told cause long);
      refusal = cause;
      files = line;
      complete = λ files free. absurd (no_fit_is_no_want inside memory (stops_for_want asked before.files files (NoFit inside memory) free.told free.fits cause));
    }

-- the line is left where a write failed since an earlier count
line_earlier : (old new : Option Files) (name line : List ℕ) (before writes now : ℕ) → before ≤ writes → LineLeft old new name line writes now → LineLeft old new name line before now
line_earlier old new name line before writes now later left =
    elim left [
      | inl e ↦ inl e
      | inr (rose, part) ↦ inr (omega (arith, rose, later), part)
    ]

-- a refusal, with its line left or memory wanted for it
refused_as : (asked : MapFiles) (before after : Look) (writes : ℕ) (status result : Status) → before.writes ≤ writes
    → (LineLeft before.files after.files asked.report (refusal_line status) before.writes after.writes → Outcome (Map asked) before after status)
    → ((result ≡ status) × LineLeft before.files after.files asked.report (refusal_line status) writes after.writes) ⊎ ((result ≡ Memory) × (after.files ≡ before.files))
    → Outcome (Map asked) before after result
refused_as asked before after writes status result later outcome how =
    elim how [
      | inl (e, line) ↦ subst (λ s. Outcome (Map asked) before after s) (sym e) (outcome (line_earlier before.files after.files asked.report (refusal_line status) before.writes writes after.writes later line))
      | inr (e, stay) ↦ subst (λ s. Outcome (Map asked) before after s) (sym e) (outcome_memory asked before after stay)
    ]

-- the command stopped before it wrote its texts
pub outcome_stopped : (asked : MapFiles) (before after : Look) (reads writes : ℕ) (status result : Status) → Stopped asked before.files before.reads reads status → Refused asked.report before.files after.files writes after.writes status result → before.writes ≤ writes → reads ≤ after.reads → Outcome (Map asked) before after result
outcome_stopped asked before after reads writes Ok result stopped refused later reads_later = absurd stopped
outcome_stopped asked before after reads writes Usage result stopped refused later reads_later = absurd stopped
outcome_stopped asked before after reads writes WriteFault result stopped refused later reads_later = absurd stopped
outcome_stopped asked before after reads writes (Stimulus line_number code) result stopped refused later reads_later = absurd stopped
outcome_stopped asked before after reads writes ReadFault result stopped refused later reads_later =
    subst (λ s. Outcome (Map asked) before after s) (sym refused.0) (outcome_read_fault asked before after refused.1 (omega (arith, stopped, reads_later)))
outcome_stopped asked before after reads writes Memory result stopped refused later reads_later =
    subst (λ s. Outcome (Map asked) before after s) (sym refused.0) (outcome_memory asked before after refused.1)
outcome_stopped asked before after reads writes (Limit counts seen) result stopped refused later reads_later =
    refused_as asked before after writes (Limit counts seen) result later (outcome_limit asked before after counts seen stopped) refused
outcome_stopped asked before after reads writes (Design inside name line_number code) result stopped refused later reads_later =
    refused_as asked before after writes (Design inside name line_number code) result later (outcome_design asked before after inside name line_number code stopped) refused
outcome_stopped asked before after reads writes (Library line_number code) result stopped refused later reads_later =
    refused_as asked before after writes (Library line_number code) result later (outcome_library asked before after line_number code stopped) refused
outcome_stopped asked before after reads writes (NoFit inside memory) result stopped refused later reads_later =
    refused_as asked before after writes (NoFit inside memory) result later (outcome_no_fit asked before after inside memory stopped) refused

-- what map writes of what it prepared
pub map_writes : (asked : MapFiles) (told : Option Files) (made : Made) → Prepared asked told made → MapWrites asked told ((asked.inferred, made.inferred.items) ∷ (asked.netlist, made.netlist.items) ∷ (asked.report, made.report.items) ∷ [])
map_writes asked told made prepared = record { read = prepared.read; made = made; maps = prepared.maps; texts_are = refl }

-- all texts are written
pub outcome_written : (asked : MapFiles) (before after : Look) (texts : List (List ℕ × List ℕ)) → MapWrites asked before.files texts → after.files ≡ put_all before.files texts → Outcome (Map asked) before after Ok
outcome_written asked before after texts may written =
    record {
      understood = λ e. cc;
      read_fault = λ e. cc;
      write_fault = λ e. cc;
      limit = tt;
      long_file = λ files told long. absurd (not_long_read asked before.files files told may.read long);
      refusal = tt;
      files = (texts, (may, written));
      complete = λ files free. tt;
    }

-- the writes stop
pub outcome_broken : (asked : MapFiles) (before after : Look) (writes : ℕ) (texts : List (List ℕ × List ℕ)) (fault : DeskFault) → before.writes ≤ writes → MapWrites asked before.files texts → WriteStops before.files after.files texts writes after.writes fault → Outcome (Map asked) before after (status_of_write fault)
outcome_broken asked before after writes texts faults.Failed later may stops =
    record {
      understood = λ e. cc;
      read_fault = λ e. cc;
      write_fault = λ e. omega (arith, later, stops.0);
      limit = tt;
      long_file = λ files told long. absurd (not_long_read asked before.files files told may.read long);
      refusal = tt;
      files = (texts, (may, stops.1));
      complete = λ files free. absurd (free.writes (omega (arith, later, stops.0)));
    }
outcome_broken asked before after writes texts (faults.TooLong seen) later may stops = absurd stops
outcome_broken asked before after writes texts faults.Memory later may stops =
    record {
      understood = λ e. cc;
      read_fault = λ e. cc;
      write_fault = λ e. cc;
      limit = tt;
      long_file = λ files told long. tt;
      refusal = tt;
      files = inr (texts, (may, stops));
      complete = λ files free. tt;
    }
