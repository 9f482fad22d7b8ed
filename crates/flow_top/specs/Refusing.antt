-- The statuses of what stops `map` after its files were read: a library that is none, and a design that is not mapped.
use Rattle.std.specs.Prelude.{◌≡◌, ℕ, List, ◌⊎◌}
use Rattle.lib_core.specs.declared.library.Library.{Library as Lib}
use Rattle.rtlil_text.specs.declared.doc.Doc.{Doc}
use Rattle.map_flow.specs.Maps.{IsRefused}
use Rattle.lib_tree.specs.declared.fault.LibCode.{LibCode}
use Rattle.lib_tree.specs.declared.fault.LibCode.TheVariants as library
use Rattle.lib_tree.specs.declared.fault.LibFault.{LibFault}
use Rattle.lib_read.specs.Reads.{LibReads, IsFault}
use Rattle.lib_read.specs.Limits.{IsWithinLimits}
use Rattle.net_wires.specs.declared.breach.BuildCode.{BuildCode}
use Rattle.net_wires.specs.declared.breach.BuildCode.TheVariants as build
use Rattle.net_build.specs.declared.fault.BuildFault.{BuildFault}
use Rattle.mem_collect.specs.declared.fault.CollectCode.{CollectCode}
use Rattle.mem_collect.specs.declared.fault.CollectCode.TheVariants as collect
use Rattle.net_collect.specs.declared.fault.DesignFault.{DesignFault}
use Rattle.map_flow.specs.declared.refusal.MapRefusal.{MapRefusal}
use Rattle.map_flow.specs.declared.refusal.MapRefusal.TheVariants as refusal
use Rattle.flow_top.specs.declared.status.Counted.TheVariants as counted
use Rattle.flow_top.specs.declared.status.DesignCode.TheVariants as design
use Rattle.flow_top.specs.declared.status.Status.{Status}
use Rattle.flow_top.specs.declared.status.Status.TheVariants.{Design, Library, NoFit, Limit, Memory}

-- ---- libraries

abbrev pub library_status_by : LibCode → ℕ → ℕ → Status
library_status_by library.Memory line seen = Memory
library_status_by library.Limit line seen = Limit counted.Library seen
library_status_by code line seen = Library line code

abbrev pub library_status : LibFault → Status
library_status f = library_status_by f.code f.line f.seen

-- the text reads as no library that this program takes, and this is its first fault
pub record IsNoLibrary (bytes : List ℕ) (fault : LibFault) : Type 0 where
  pub first : IsFault bytes fault
  pub unread : (lib : Lib) → LibReads bytes lib → IsWithinLimits lib → ⊥

-- the status tells the first fault of a library
pub record TellsLibraryFault (bytes : List ℕ) (status : Status) : Type 0 where
  pub fault : LibFault
  pub is_none : IsNoLibrary bytes fault
  pub status_is : status ≡ library_status fault

abbrev pub RefusesLibrary : List ℕ → Status → Type 0
RefusesLibrary bytes status = (status ≡ Memory) ⊎ TellsLibraryFault bytes status

-- ---- designs

-- a limit has no place in the design; other faults have the module and what breaks the rule
abbrev pub build_status_by : BuildCode → List ℕ → List ℕ → ℕ → Status
build_status_by build.Memory inside name seen = Memory
build_status_by build.Limit inside name seen = Limit counted.Build seen
build_status_by code inside name seen = Design inside name 0 (design.Build code)

abbrev pub build_status : BuildFault → Status
build_status f = build_status_by f.code f.«module» f.name f.seen

abbrev pub collect_status_by : CollectCode → List ℕ → List ℕ → Status
collect_status_by collect.Memory inside name = Memory
collect_status_by code inside name = Design inside name 0 (design.Collect code)

abbrev pub collect_status : DesignFault → Status
collect_status f = collect_status_by f.fault.code f.«module» f.fault.name

abbrev pub map_status : MapRefusal → Status
map_status refusal.Memory = Memory
map_status (refusal.Build f) = build_status f
map_status (refusal.Collect f) = collect_status f
map_status (refusal.NoFit inside memory) = NoFit inside memory
map_status (refusal.Room seen) = Limit counted.Room seen

-- the status tells why the design is not mapped
pub record TellsRefusal (doc : Doc) (lib : Lib) (status : Status) : Type 0 where
  pub cause : MapRefusal
  pub refused : IsRefused doc lib cause
  pub status_is : status ≡ map_status cause
