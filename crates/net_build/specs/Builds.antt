-- What is answered of a document: the design that it means, exactly where no rule is broken; else the first breach, module by
-- module in file order.
use Rattle.std.specs.Prelude.{◌≡◌, ◌⊎◌, ℕ, List, [], ◌∷◌, map, Vec, Result, Ok, Err}
use Rattle.std.specs.Global.{Global}
use Rattle.lib_core.specs.declared.library.RamKind.{RamKind}
use Rattle.cell_rows.specs.Kinds.{found, place_of}
use Rattle.net_gather.specs.Faces.{Shows}
use Rattle.net_checks.specs.Inouts.{ShowsInouts}
use Rattle.lib_core.specs.declared.library.Library.{Library}
use Rattle.net_core.specs.declared.modules.Design.{Design}
use Rattle.net_core.specs.declared.modules.Module.{Module}
use Rattle.rtlil_text.specs.declared.doc.Doc.{Doc}
use Rattle.rtlil_text.specs.declared.doc.DocModule.{DocModule}
use Rattle.net_wires.specs.declared.breach.BuildCode.TheVariants as code
use Rattle.net_build.specs.declared.fault.BuildFault.{BuildFault}
use Rattle.net_build.specs.declared.fault.Refusal.{Refusal}
use Rattle.net_build.specs.declared.fault.Refusal.TheVariants as refusal
use Rattle.net_build.specs.declared.fault.Refused.{Refused}
use Rattle.net_build.specs.Faults.{IsFaultless, IsFirst}
use Rattle.net_build.specs.Means.{IsMeant, ram_names}
use Rattle.net_build.specs.declared.building.Tables.{Tables}

-- nothing is wrong with the module, and this is what it means
abbrev pub IsBuilt : Library → List DocModule → DocModule → Module → Type 0
IsBuilt lib modules d m = IsFaultless lib modules d × IsMeant lib modules d m

-- why a module is refused: memory ran out, or this is its first breach
abbrev pub IsRefusal : Library → List DocModule → DocModule → Refusal → Type 0
IsRefusal lib modules d refusal.Memory = Unit {0}
IsRefusal lib modules d (refusal.Broken r) = IsFirst lib modules d r

abbrev pub BuildsModule : Library → List DocModule → DocModule → Result Module Refusal → Type 0
BuildsModule lib modules d (Ok m) = IsBuilt lib modules d m
BuildsModule lib modules d (Err r) = IsRefusal lib modules d r

-- a fault is that of this module
abbrev pub fault_in : List ℕ → Refused → BuildFault
fault_in name r = record { «module» = name; name = r.name; code = r.code; cells = r.cells; seen = r.seen }

-- want of memory is a fault of its own
abbrev pub IsWant : BuildFault → Type 0
IsWant f = f.code ≡ code.Memory

-- this module is refused with this fault
abbrev pub IsFaultIn : Library → List DocModule → DocModule → BuildFault → Type 0
IsFaultIn lib modules d f = (r : Refused) × IsFirst lib modules d r × (f ≡ fault_in d.name r)

-- the fault is the first breach of the first of these modules that breaks a rule; nothing is wrong with those before it
abbrev pub FirstFails : Library → List DocModule → List DocModule → BuildFault → Type 0
FirstFails lib modules [] f = ⊥
FirstFails lib modules (d ∷ ds) f = IsFaultIn lib modules d f ⊎ (((m : Module) × IsBuilt lib modules d m) × FirstFails lib modules ds f)

-- nothing is wrong with any of these modules, and this is what they mean, one by one
abbrev pub AreBuilt : Library → List DocModule → List DocModule → List Module → Type 0
AreBuilt lib modules [] [] = Unit {0}
AreBuilt lib modules [] (m ∷ ms) = ⊥
AreBuilt lib modules (d ∷ ds) [] = ⊥
AreBuilt lib modules (d ∷ ds) (m ∷ ms) = IsBuilt lib modules d m × AreBuilt lib modules ds ms

abbrev pub BuildsAll : Library → List DocModule → List DocModule → Result (Vec Module Global) BuildFault → Type 0
BuildsAll lib modules ds (Ok built) = AreBuilt lib modules ds built.items
BuildsAll lib modules ds (Err f) = IsWant f ⊎ FirstFails lib modules ds f

-- the design that a document means, where no rule is broken; else the first breach
abbrev pub Builds : Doc → Library → Result Design BuildFault → Type 0
Builds doc lib (Ok design) = AreBuilt lib doc.modules doc.modules design.modules
Builds doc lib (Err f) = IsWant f ⊎ FirstFails lib doc.modules doc.modules f

-- ---- what the code answers on the way

abbrev pub names_of_rams : List RamKind → List (List ℕ)
names_of_rams rams = map (λ (k : RamKind). k.name) rams

abbrev pub IsFaultOf : DocModule → Refusal → BuildFault → Type 0
IsFaultOf d refusal.Memory f = IsWant f
IsFaultOf d (refusal.Broken r) f = IsWant f ⊎ (f ≡ fault_in d.name r)

-- these look up the RAMs of a library and the modules of a document
pub record AreTables (lib : Library) (modules : List DocModule) (t : Tables) : Type 0 where
  pub rams : (name : List ℕ) → found t.rams name ≡ place_of (ram_names lib) name
  pub faces : Shows modules t.faces
  pub inouts : ShowsInouts modules t.inouts
