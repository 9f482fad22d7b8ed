-- The faults of the steps are faults of the whole.
use Rattle.std.proofs.Common.{◌≡◌, Some, slice_get, ◌⊎◌, inl, inr}
use Rattle.lib_core.specs.declared.library.Library.{Library}
use Rattle.rtlil_text.specs.declared.doc.Doc.{Doc}
use Rattle.net_core.specs.declared.modules.Design.{Design}
use Rattle.mem_collect.specs.declared.fault.CollectCode.{CollectCode}
use Rattle.mem_collect.specs.declared.fault.CollectCode.TheVariants as collect
use Rattle.net_wires.specs.declared.breach.BuildCode.{BuildCode}
use Rattle.net_wires.specs.declared.breach.BuildCode.TheVariants as code
use Rattle.net_build.specs.declared.fault.BuildFault.{BuildFault}
use Rattle.net_build.specs.Builds.{FirstFails, IsWant}
use Rattle.net_collect.specs.declared.fault.DesignFault.{DesignFault}
use Rattle.net_collect.specs.Collected.{faults_in}
use Rattle.net_whole.specs.Whole.{IsBuiltOf, IsUncollected, IsFault, build_fault_by, build_fault, collect_fault_by, collect_fault}

built_by : (doc : Doc) (lib : Library) (c : BuildCode) (f : BuildFault) → ((c ≡ code.Memory → ⊥) → FirstFails lib doc.modules doc.modules f) → IsFault doc lib (build_fault_by c f)
built_by doc lib code.Memory f first = tt
built_by doc lib code.NoWire f first = first (λ e. cc)
built_by doc lib code.Range f first = first (λ e. cc)
built_by doc lib code.WidthDiffers f first = first (λ e. cc)
built_by doc lib code.TwoDrivers f first = first (λ e. cc)
built_by doc lib code.UnknownCell f first = first (λ e. cc)
built_by doc lib code.MissingParam f first = first (λ e. cc)
built_by doc lib code.ClockRoot f first = first (λ e. cc)
built_by doc lib code.AsyncWrite f first = first (λ e. cc)
built_by doc lib code.CombLoop f first = first (λ e. cc)
built_by doc lib code.Inout f first = first (λ e. cc)
built_by doc lib code.BadRam f first = first (λ e. cc)
built_by doc lib code.Limit f first = first (λ e. cc)

not_want : {A : Type 0} (c : BuildCode) → (c ≡ code.Memory) ⊎ A → (c ≡ code.Memory → ⊥) → A
not_want c (inl e) other = absurd (other e)
not_want c (inr a) other = a

pub build_is_fault : (doc : Doc) (lib : Library) (f : BuildFault) → IsWant f ⊎ FirstFails lib doc.modules doc.modules f → IsFault doc lib (build_fault f)
build_is_fault doc lib f why = built_by doc lib f.code f (λ other. not_want f.code why other)

collected_by : (doc : Doc) (lib : Library) (c : CollectCode) (f : DesignFault) → ((c ≡ collect.Memory → ⊥) → IsUncollected lib doc f) → IsFault doc lib (collect_fault_by c f)
collected_by doc lib collect.Memory f first = tt
collected_by doc lib collect.NoMemory f first = first (λ e. cc)
collected_by doc lib collect.PortIdTwice f first = first (λ e. cc)
collected_by doc lib collect.NotConstant f first = first (λ e. cc)
collected_by doc lib collect.MasksOverlap f first = first (λ e. cc)
collected_by doc lib collect.BadWidth f first = first (λ e. cc)

uncollected : (doc : Doc) (lib : Library) (parts : Design) (f : DesignFault) → IsBuiltOf lib doc parts → (f.fault.code ≡ collect.Memory) ⊎ (slice_get (faults_in parts.modules) 0 ≡ Some f) → (f.fault.code ≡ collect.Memory → ⊥) → IsUncollected lib doc f
uncollected doc lib parts f built (inl e) other = absurd (other e)
uncollected doc lib parts f built (inr first) other = record { parts = parts; built = built; first = first }

pub collect_is_fault : (doc : Doc) (lib : Library) (parts : Design) (f : DesignFault) → IsBuiltOf lib doc parts → (f.fault.code ≡ collect.Memory) ⊎ (slice_get (faults_in parts.modules) 0 ≡ Some f) → IsFault doc lib (collect_fault f)
collect_is_fault doc lib parts f built why = collected_by doc lib f.fault.code f (λ other. uncollected doc lib parts f built why other)
