-- Which design a document means under a library once the memory cells of each module are put together to whole memories; or the
-- first rule that is broken.
use Rattle.std.specs.Prelude.{◌≡◌, [], map, Some, slice_get}
use Rattle.lib_core.specs.declared.library.Library.{Library}
use Rattle.rtlil_text.specs.declared.doc.Doc.{Doc}
use Rattle.net_core.specs.declared.modules.Design.{Design}
use Rattle.mem_collect.specs.declared.fault.CollectCode.{CollectCode}
use Rattle.mem_collect.specs.declared.fault.CollectCode.TheVariants as collect
use Rattle.net_wires.specs.declared.breach.BuildCode.{BuildCode}
use Rattle.net_wires.specs.declared.breach.BuildCode.TheVariants as code
use Rattle.net_build.specs.declared.fault.BuildFault.{BuildFault}
use Rattle.net_build.specs.Builds.{AreBuilt, FirstFails}
use Rattle.net_collect.specs.declared.fault.DesignFault.{DesignFault}
use Rattle.net_collect.specs.Collected.{collected, faults_in}
use Rattle.net_whole.specs.declared.fault.WholeFault.{WholeFault}
use Rattle.net_whole.specs.declared.fault.WholeFault.TheVariants as fault

-- the design whose memories are still in parts
abbrev pub IsBuiltOf : Library → Doc → Design → Type 0
IsBuiltOf lib doc parts = AreBuilt lib doc.modules doc.modules parts.modules

-- nothing is wrong with the document nor with the memory cells of the design that it means, and this is that design with
-- whole memories
pub record MeansWhole (lib : Library) (doc : Doc) (d : Design) : Type 0 where
  pub parts : Design
  pub built : IsBuiltOf lib doc parts
  pub faultless : faults_in parts.modules ≡ []
  pub is : d.modules ≡ map collected parts.modules

-- the document means a design, and this is the first rule that the memory cells of its modules break
pub record IsUncollected (lib : Library) (doc : Doc) (f : DesignFault) : Type 0 where
  pub parts : Design
  pub built : IsBuiltOf lib doc parts
  pub first : slice_get (faults_in parts.modules) 0 ≡ Some f

-- why a document means no design with whole memories; want of memory is free
abbrev pub IsFault : Doc → Library → WholeFault → Type 0
IsFault doc lib fault.Memory = Unit {0}
IsFault doc lib (fault.Build f) = FirstFails lib doc.modules doc.modules f
IsFault doc lib (fault.Collect f) = IsUncollected lib doc f

-- ---- want of memory among the faults of the steps

abbrev pub build_fault_by : BuildCode → BuildFault → WholeFault
build_fault_by code.Memory f = fault.Memory
build_fault_by c f = fault.Build f

abbrev pub build_fault : BuildFault → WholeFault
build_fault f = build_fault_by f.code f

abbrev pub collect_fault_by : CollectCode → DesignFault → WholeFault
collect_fault_by collect.Memory f = fault.Memory
collect_fault_by c f = fault.Collect f

abbrev pub collect_fault : DesignFault → WholeFault
collect_fault f = collect_fault_by f.fault.code f
