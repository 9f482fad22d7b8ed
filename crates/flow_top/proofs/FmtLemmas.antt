-- The outcome of fmt at each place where it may end.
use Rattle.std.proofs.Common.{◌≡◌, ℕ, ◌<◌, ◌≤◌, List, [], ◌∷◌, length, Some, Option, ◌⊎◌, arith, inl, inr, refl, subst, sym, ◌∙◌, ap}
use Rattle.std.specs.FinMap.{get}
use Rattle.flow_io.specs.Files.{Files, Tells, HasAtLeast}
use Rattle.flow_io.specs.Causes.{Rose}
use Rattle.flow_io.specs.declared.desk.DeskFault.{DeskFault}
use Rattle.flow_io.specs.declared.desk.DeskFault.TheVariants as faults
use Rattle.rtlil_text.specs.Reads.{Reads}
use Rattle.rtlil_text.specs.Text.{IsWithinLimits}
use Rattle.flow_top.specs.Asked.{FmtFiles, Fmt}
use Rattle.flow_top.specs.Formatting.{Formatted, FmtStopped}
use Rattle.flow_top.specs.Outcome.{Outcome, Look, FmtWrites, FmtReadsNone, HasLongText, FmtFits}
use Rattle.flow_top.specs.Reading.{RefusesText, TellsFault, status_by}
use Rattle.rtlil_text.specs.declared.fault.TextCode.{TextCode}
use Rattle.rtlil_text.specs.declared.fault.TextCode.TheVariants as text
use Rattle.flow_top.specs.Statuses.{status_of_write}
use Rattle.flow_top.specs.Texts.{put_all}
use Rattle.flow_top.specs.WriteStops.{WriteStops}
use Rattle.flow_top.specs.declared.status.Status.{Status}
use Rattle.flow_top.specs.declared.status.Status.TheVariants.{Ok, Usage, ReadFault, WriteFault, Design, Library, NoFit, Limit, Memory, Stimulus}
use Rattle.flow_top.proofs.OutcomeLemmas.{told_is, too_long, short_read}

-- the status of a text's fault stops the command
stopped_by : (asked : FmtFiles) (told : Option Files) (before now : ℕ) (code : TextCode) (line seen : ℕ) → FmtReadsNone asked told (status_by code line seen) → FmtStopped asked told before now (status_by code line seen)
stopped_by asked told before now text.Memory line seen none = tt
stopped_by asked told before now text.Limit line seen none = inr none
stopped_by asked told before now text.Token line seen none = none
stopped_by asked told before now text.Grammar line seen none = none
stopped_by asked told before now text.Process line seen none = none

pub fmt_refused : (asked : FmtFiles) (told : Option Files) (before now : ℕ) (bytes : List ℕ) (status : Status) → Tells told asked.design bytes → length bytes ≤ 16777216 → RefusesText bytes status → FmtStopped asked told before now status
fmt_refused asked told before now bytes status tells short (inl e) = subst (λ s. FmtStopped asked told before now s) (sym e) tt
fmt_refused asked told before now bytes status tells short (inr refused) =
    subst (λ s. FmtStopped asked told before now s) (sym refused.status_is)
    (stopped_by asked told before now refused.fault.code refused.fault.line refused.fault.seen (record {
      design = bytes;
      design_told = tells;
      design_short = short;
      tells = record { fault = refused.fault; is_none = refused.is_none; status_is = refl };
    }))

-- a text that is none does not fit
unfit : (asked : FmtFiles) (told : Option Files) (files : Files) (status : Status) → told ≡ Some files → FmtReadsNone asked told status → FmtFits asked files → ⊥
unfit asked told files status is none fits =
    let e : fits.design ≡ none.design = told_is told files asked.design none.design fits.design is none.design_told fits.design_there in
    let cannot = none.tells.is_none.unread fits.doc in
    cannot (subst (λ d. Reads d fits.doc) e fits.reads) (subst (λ d. IsWithinLimits d fits.doc) e fits.within)

-- want of memory
fmt_memory : (asked : FmtFiles) (before after : Look) → after.files ≡ before.files → Outcome (Fmt asked) before after Memory
fmt_memory asked before after stay =
    record {
      understood = λ e. cc;
      read_fault = λ e. cc;
      write_fault = λ e. cc;
      limit = tt;
      long_file = λ files told long. tt;
      refusal = tt;
      files = inl stay;
      complete = λ files free. tt;
    }

-- the command stopped before it wrote
pub fmt_stopped : (asked : FmtFiles) (before after : Look) (status : Status) → FmtStopped asked before.files before.reads after.reads status → after.files ≡ before.files → Outcome (Fmt asked) before after status
fmt_stopped asked before after Ok stopped stay = absurd stopped
fmt_stopped asked before after Usage stopped stay = absurd stopped
fmt_stopped asked before after WriteFault stopped stay = absurd stopped
fmt_stopped asked before after (Library line_number code) stopped stay = absurd stopped
fmt_stopped asked before after (NoFit inside memory) stopped stay = absurd stopped
fmt_stopped asked before after (Stimulus line_number code) stopped stay = absurd stopped
fmt_stopped asked before after Memory stopped stay = fmt_memory asked before after stay
fmt_stopped asked before after ReadFault stopped stay =
    record {
      understood = λ e. cc;
      read_fault = λ e. stopped;
      write_fault = λ e. cc;
      limit = tt;
      long_file = λ files told long. tt;
      refusal = tt;
      files = stay;
      complete = λ files free. absurd (free.reads stopped);
    }
fmt_stopped asked before after (Limit counts seen) stopped stay =
    record {
      understood = λ e. cc;
      read_fault = λ e. cc;
      write_fault = λ e. cc;
      limit = stopped;
      long_file = λ files told long. tt;
      refusal = tt;
      files = stay;
      complete = λ files free. elim stopped [
        | inl long ↦ absurd (too_long before.files files asked.design free.fits.design seen free.told free.fits.design_there free.fits.design_short long.1.0 (subst (λ n. HasAtLeast before.files n seen) long.1.1.1.0 long.1.1.1.1))
        | inr none ↦ absurd (unfit asked before.files files (Limit counts seen) free.told none free.fits)
      ];
    }
fmt_stopped asked before after (Design inside name line_number code) stopped stay =
    record {
      understood = λ e. cc;
      read_fault = λ e. cc;
      write_fault = λ e. cc;
      limit = tt;
      long_file = λ files told long. absurd (short_read before.files files asked.design stopped.design long.design told stopped.design_told stopped.design_short long.design_there long.long);
      refusal = stopped;
      files = stay;
      complete = λ files free. absurd (unfit asked before.files files (Design inside name line_number code) free.told stopped free.fits);
    }

-- what fmt writes of what it printed
pub fmt_writes : (asked : FmtFiles) (told : Option Files) (text : List ℕ) → Formatted asked told text → FmtWrites asked told ((asked.out, text) ∷ [])
fmt_writes asked told text formatted =
    record {
      design = formatted.design;
      doc = formatted.doc;
      design_told = formatted.design_told;
      design_short = formatted.design_short;
      reads = formatted.reads;
      texts_are = ap (λ t. (asked.out, t) ∷ []) formatted.text_is;
    }

-- the text is written
pub fmt_written : (asked : FmtFiles) (before after : Look) (texts : List (List ℕ × List ℕ)) → FmtWrites asked before.files texts → after.files ≡ put_all before.files texts → Outcome (Fmt asked) before after Ok
fmt_written asked before after texts may written =
    record {
      understood = λ e. cc;
      read_fault = λ e. cc;
      write_fault = λ e. cc;
      limit = tt;
      long_file = λ files told long. absurd (short_read before.files files asked.design may.design long.design told may.design_told may.design_short long.design_there long.long);
      refusal = tt;
      files = (texts, (may, written));
      complete = λ files free. tt;
    }

-- the write stops
pub fmt_broken : (asked : FmtFiles) (before after : Look) (writes : ℕ) (texts : List (List ℕ × List ℕ)) (fault : DeskFault) → before.writes ≤ writes → FmtWrites asked before.files texts → WriteStops before.files after.files texts writes after.writes fault → Outcome (Fmt asked) before after (status_of_write fault)
fmt_broken asked before after writes texts faults.Failed later may stops =
    record {
      understood = λ e. cc;
      read_fault = λ e. cc;
      write_fault = λ e. omega (arith, later, stops.0);
      limit = tt;
      long_file = λ files told long. absurd (short_read before.files files asked.design may.design long.design told may.design_told may.design_short long.design_there long.long);
      refusal = tt;
      files = (texts, (may, stops.1));
      complete = λ files free. absurd (free.writes (omega (arith, later, stops.0)));
    }
fmt_broken asked before after writes texts (faults.TooLong seen) later may stops = absurd stops
fmt_broken asked before after writes texts faults.Memory later may stops =
    record {
      understood = λ e. cc;
      read_fault = λ e. cc;
      write_fault = λ e. cc;
      limit = tt;
      long_file = λ files told long. tt;
      refusal = tt;
      files = inr (texts, (may, stops));
      complete = λ files free. tt;
    }
