-- A module with its memories whole: each declared memory with the cells that belong to it, then the memories of the cells that
-- hold whole ones. (Yosys manual, memories; the names and the limits of this are this project's own.)
use Rattle.std.specs.Prelude.{◌≡◌, ◌⊎◌, ℕ, Bool, true, false, List, [], ◌∷◌, ◌++◌, map, filter, slice_get, Some, Result, Ok, Err}
use Rattle.net_core.specs.declared.mems.Mem.{Mem}
use Rattle.net_core.specs.declared.mems.RdPort.{RdPort}
use Rattle.net_core.specs.declared.modules.Design.{Design}
use Rattle.net_core.specs.declared.modules.Module.{Module}
use Rattle.mem_collect.specs.declared.fault.CollectCode.TheVariants as code
use Rattle.mem_collect.specs.declared.fault.CollectFault.{CollectFault}
use Rattle.part_faults.specs.Faults.{part_faults}
use Rattle.part_faults.specs.Parts.{names_of}
use Rattle.net_collect.specs.declared.fault.DesignFault.{DesignFault}
use Rattle.net_collect.specs.declared.grouping.Groups.{Groups}
use Rattle.net_collect.specs.Gathered.{gathered}
use Rattle.net_collect.specs.Grouping.{groups_of}
use Rattle.net_collect.specs.Naming.{named_from, with_names}

abbrev pub has_ports : List RdPort → Bool
has_ports [] = false
has_ports (r ∷ rs) = true

abbrev pub is_read : Mem → Bool
is_read m = has_ports m.reads

-- the memories of these groups, in order
abbrev pub mems_in : Groups → List Mem
mems_in g = map gathered g.buckets ++ g.wholes

-- under names of their own, none of which is taken; those that nothing reads are dropped then
abbrev pub kept : List (List ℕ) → List Mem → List Mem
kept taken ms = filter is_read (named_from taken ms)

abbrev pub mems_by : List (List ℕ) → List Mem → Groups → List Mem
mems_by taken there g = there ++ kept taken (mems_in g)

-- the names of memories that are there are taken
abbrev pub mems_of : Module → List Mem
mems_of m = mems_by (with_names [] (names_of m.mems)) m.mems (groups_of m)

unfoldable pub collected : Module → Module
collected m = record {
  name = m.name;
  attrs = m.attrs;
  nets = m.nets;
  wires = m.wires;
  declared = [];
  parts = [];
  mems = mems_of m;
  combs = m.combs;
  regs = m.regs;
  rams = m.rams;
  carried = m.carried;
}

-- the module with its memories whole where no rule of its memory cells is broken, else the first that is; or memory was wanting
abbrev pub Collects : Module → Result Module CollectFault → Type 0
Collects m (Ok n) = (part_faults m ≡ []) × (n ≡ collected m)
Collects m (Err f) = (f.code ≡ code.Memory) ⊎ (slice_get (part_faults m) 0 ≡ Some f)

-- the rules that the memory cells of modules break, module by module
abbrev pub fault_in : List ℕ → CollectFault → DesignFault
fault_in name f = record { «module» = name; fault = f }

abbrev pub faults_of : Module → List DesignFault
faults_of m = map (fault_in m.name) (part_faults m)

abbrev pub faults_in : List Module → List DesignFault
faults_in [] = []
faults_in (m ∷ ms) = faults_of m ++ faults_in ms

-- of one module
abbrev pub CollectsIn : Module → Result Module DesignFault → Type 0
CollectsIn m (Ok n) = (part_faults m ≡ []) × (n ≡ collected m)
CollectsIn m (Err f) = (f.fault.code ≡ code.Memory) ⊎ (slice_get (faults_of m) 0 ≡ Some f)

-- every module of a design, or the first rule that is broken in the first module that breaks one; or memory was wanting
abbrev pub CollectsModules : List Module → Result (List Module) DesignFault → Type 0
CollectsModules ms (Ok ns) = (faults_in ms ≡ []) × (ns ≡ map collected ms)
CollectsModules ms (Err f) = (f.fault.code ≡ code.Memory) ⊎ (slice_get (faults_in ms) 0 ≡ Some f)

abbrev pub CollectsAll : Design → Result Design DesignFault → Type 0
CollectsAll d (Ok e) = (faults_in d.modules ≡ []) × (e.modules ≡ map collected d.modules)
CollectsAll d (Err f) = (f.fault.code ≡ code.Memory) ⊎ (slice_get (faults_in d.modules) 0 ≡ Some f)
