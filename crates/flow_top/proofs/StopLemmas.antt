-- Why map stopped before it wrote, by what was read.
use Rattle.std.proofs.Common.{◌≡◌, ℕ, ◌≤◌, List, length, Option, ◌⊎◌, inl, inr, refl, subst, sym}
use Rattle.flow_io.specs.Files.{Files, Tells}
use Rattle.lib_core.specs.declared.library.Library.{Library as Lib}
use Rattle.lib_tree.specs.declared.fault.LibCode.{LibCode}
use Rattle.lib_tree.specs.declared.fault.LibCode.TheVariants as library
use Rattle.lib_tree.specs.declared.fault.LibFault.{LibFault}
use Rattle.lib_read.specs.Reads.{LibReads}
use Rattle.net_wires.specs.declared.breach.BuildCode.{BuildCode}
use Rattle.net_wires.specs.declared.breach.BuildCode.TheVariants as build
use Rattle.mem_collect.specs.declared.fault.CollectCode.{CollectCode}
use Rattle.mem_collect.specs.declared.fault.CollectCode.TheVariants as collect
use Rattle.map_flow.specs.declared.refusal.MapRefusal.{MapRefusal}
use Rattle.map_flow.specs.declared.refusal.MapRefusal.TheVariants as refusal
use Rattle.rtlil_text.specs.declared.doc.Doc.{Doc}
use Rattle.rtlil_text.specs.declared.fault.TextCode.{TextCode}
use Rattle.rtlil_text.specs.declared.fault.TextCode.TheVariants as text
use Rattle.rtlil_text.specs.Reads.{Reads}
use Rattle.flow_top.specs.Asked.{MapFiles}
use Rattle.flow_top.specs.Outcome.{MapReads, MapStops}
use Rattle.flow_top.specs.Preparing.{Prepared, Stopped}
use Rattle.map_flow.specs.Maps.{IsMapped}
use Rattle.map_flow.specs.declared.map.Made.{Made}
use Rattle.flow_top.specs.Reading.{RefusesText, status_by}
use Rattle.flow_top.specs.Refusing.{RefusesLibrary, TellsRefusal, library_status_by, build_status_by, collect_status_by, map_status}
use Rattle.flow_top.specs.declared.status.Status.{Status}
use Rattle.flow_top.specs.declared.status.Status.TheVariants.{Ok, Usage, ReadFault, WriteFault, Design, Library, NoFit, Limit, Memory}

by_text : (asked : MapFiles) (told : Option Files) (before now : ℕ) (code : TextCode) (line seen : ℕ) → MapStops asked told (status_by code line seen) → Stopped asked told before now (status_by code line seen)
by_text asked told before now text.Memory line seen stops = tt
by_text asked told before now text.Limit line seen stops = inr stops
by_text asked told before now text.Token line seen stops = stops
by_text asked told before now text.Grammar line seen stops = stops
by_text asked told before now text.Process line seen stops = stops

by_library : (asked : MapFiles) (told : Option Files) (before now : ℕ) (code : LibCode) (line seen : ℕ) → MapStops asked told (library_status_by code line seen) → Stopped asked told before now (library_status_by code line seen)
by_library asked told before now library.Memory line seen stops = tt
by_library asked told before now library.Limit line seen stops = inr stops
by_library asked told before now library.Token line seen stops = stops
by_library asked told before now library.Unclosed line seen stops = stops
by_library asked told before now library.UnknownWord line seen stops = stops
by_library asked told before now library.NotForKind line seen stops = stops
by_library asked told before now library.Twice line seen stops = stops
by_library asked told before now library.Missing line seen stops = stops
by_library asked told before now library.BadWidths line seen stops = stops
by_library asked told before now library.BadNumber line seen stops = stops

by_build : (asked : MapFiles) (told : Option Files) (before now : ℕ) (code : BuildCode) (inside name : List ℕ) (seen : ℕ) → MapStops asked told (build_status_by code inside name seen) → Stopped asked told before now (build_status_by code inside name seen)
by_build asked told before now build.Memory inside name seen stops = tt
by_build asked told before now build.Limit inside name seen stops = inr stops
by_build asked told before now build.NoWire inside name seen stops = stops
by_build asked told before now build.Range inside name seen stops = stops
by_build asked told before now build.WidthDiffers inside name seen stops = stops
by_build asked told before now build.TwoDrivers inside name seen stops = stops
by_build asked told before now build.UnknownCell inside name seen stops = stops
by_build asked told before now build.MissingParam inside name seen stops = stops
by_build asked told before now build.ClockRoot inside name seen stops = stops
by_build asked told before now build.AsyncWrite inside name seen stops = stops
by_build asked told before now build.CombLoop inside name seen stops = stops
by_build asked told before now build.Inout inside name seen stops = stops
by_build asked told before now build.BadRam inside name seen stops = stops

by_collect : (asked : MapFiles) (told : Option Files) (before now : ℕ) (code : CollectCode) (inside name : List ℕ) → MapStops asked told (collect_status_by code inside name) → Stopped asked told before now (collect_status_by code inside name)
by_collect asked told before now collect.Memory inside name stops = tt
by_collect asked told before now collect.NoMemory inside name stops = stops
by_collect asked told before now collect.PortIdTwice inside name stops = stops
by_collect asked told before now collect.NotConstant inside name stops = stops
by_collect asked told before now collect.MasksOverlap inside name stops = stops
by_collect asked told before now collect.BadWidth inside name stops = stops

by_refusal : (asked : MapFiles) (told : Option Files) (before now : ℕ) (cause : MapRefusal) → MapStops asked told (map_status cause) → Stopped asked told before now (map_status cause)
by_refusal asked told before now refusal.Memory stops = tt
by_refusal asked told before now (refusal.Build f) stops = by_build asked told before now f.code f.«module» f.name f.seen stops
by_refusal asked told before now (refusal.Collect f) stops = by_collect asked told before now f.fault.code f.«module» f.fault.name stops
by_refusal asked told before now (refusal.NoFit inside memory) stops = stops
by_refusal asked told before now (refusal.Room seen) stops = inr stops

-- the text of the design is none
pub design_refused : (asked : MapFiles) (told : Option Files) (before now : ℕ) (bytes : List ℕ) (status : Status) → Tells told asked.design bytes → length bytes ≤ 16777216 → RefusesText bytes status → Stopped asked told before now status
design_refused asked told before now bytes status tells short (inl e) = subst (λ s. Stopped asked told before now s) (sym e) tt
design_refused asked told before now bytes status tells short (inr refused) =
    subst (λ s. Stopped asked told before now s) (sym refused.status_is)
    (by_text asked told before now refused.fault.code refused.fault.line refused.fault.seen
    (inl (record { design = bytes; design_told = tells; design_short = short; tells = record { fault = refused.fault; is_none = refused.is_none; status_is = refl } })))

-- the text of the library is none
pub library_refused : (asked : MapFiles) (told : Option Files) (before now : ℕ) (design bytes : List ℕ) (doc : Doc) (status : Status) → Tells told asked.design design → length design ≤ 16777216 → Reads design doc → Tells told asked.library bytes → length bytes ≤ 16777216 → RefusesLibrary bytes status → Stopped asked told before now status
library_refused asked told before now design bytes doc status dt ds reads lt ls (inl e) = subst (λ s. Stopped asked told before now s) (sym e) tt
library_refused asked told before now design bytes doc status dt ds reads lt ls (inr refused) =
    subst (λ s. Stopped asked told before now s) (sym refused.status_is)
    (by_library asked told before now refused.fault.code refused.fault.line refused.fault.seen
    (inr (inl (record {
      design = design;
      library = bytes;
      doc = doc;
      design_told = dt;
      library_told = lt;
      design_short = ds;
      library_short = ls;
      reads = reads;
      tells = record { fault = refused.fault; is_none = refused.is_none; status_is = refl };
    }))))

-- the design is not mapped
refused_read : (asked : MapFiles) (told : Option Files) (before now : ℕ) (read : MapReads asked told) (status : Status) → TellsRefusal read.doc read.lib status → Stopped asked told before now status
refused_read asked told before now read status refused =
    subst (λ s. Stopped asked told before now s) (sym refused.status_is)
    (by_refusal asked told before now refused.cause
    (inr (inr (record { read = read; tells = record { cause = refused.cause; refused = refused.refused; status_is = refl } }))))

pub map_refused : (asked : MapFiles) (told : Option Files) (before now : ℕ) (design library : List ℕ) (doc : Doc) (lib : Lib) (status : Status)
    → Tells told asked.design design → length design ≤ 16777216 → Reads design doc → Tells told asked.library library → length library ≤ 16777216 → LibReads library lib → TellsRefusal doc lib status → Stopped asked told before now status
map_refused asked told before now design library doc lib status dt ds reads lt ls library_reads refused =
    refused_read asked told before now
    (record {
      design = design;
      library = library;
      doc = doc;
      lib = lib;
      design_told = dt;
      library_told = lt;
      design_short = ds;
      library_short = ls;
      reads = reads;
      library_reads = library_reads;
    })
    status refused

-- the design is mapped
pub prepared : (asked : MapFiles) (told : Option Files) (design library : List ℕ) (doc : Doc) (lib : Lib) (made : Made)
    → Tells told asked.design design → length design ≤ 16777216 → Reads design doc → Tells told asked.library library → length library ≤ 16777216 → LibReads library lib → IsMapped doc lib made → Prepared asked told made
prepared asked told design library doc lib made dt ds reads lt ls library_reads maps = record {
  read = record {
    design = design;
    library = library;
    doc = doc;
    lib = lib;
    design_told = dt;
    library_told = lt;
    design_short = ds;
    library_short = ls;
    reads = reads;
    library_reads = library_reads;
  };
  maps = maps;
}
