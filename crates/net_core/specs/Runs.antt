-- Runs and traces of a module under a library, refinement, and liveness.
use Rattle.std.specs.Prelude.{◌≡◌, ℕ, suc, Bool, List, [], ◌∷◌, ◌++◌, length, map, Option, Some, slice_get, option_and_then}
use Rattle.lib_core.specs.declared.library.Library.{Library}
use Rattle.lib_core.specs.declared.library.RamKind.{RamKind}
use Rattle.lib_core.specs.declared.library.Variant.{Variant}
use Rattle.net_core.specs.declared.bits.Bit.{Bit}
use Rattle.net_core.specs.declared.cells.Comb.{Comb}
use Rattle.net_core.specs.declared.cells.Reg.{Reg}
use Rattle.net_core.specs.declared.mems.Mem.{Mem}
use Rattle.net_core.specs.declared.rams.RamCell.{RamCell}
use Rattle.net_core.specs.declared.modules.Module.{Module}
use Rattle.net_core.specs.declared.modules.Design.{Design}
use Rattle.net_core.specs.Values.{Wave, Happening, At, values_of, bit_at}
use Rattle.net_core.specs.Cells.{CombAllows, RegAllows}
use Rattle.net_core.specs.Memory.{MemAllows}
use Rattle.lib_core.specs.Rams.{reads_now}
use Rattle.net_core.specs.Ram.{Slot, slots_of, RamAllows}
use Rattle.net_core.specs.Nodes.{Ordered}
use Rattle.net_core.specs.Drivers.{HasOneDriver}
use Rattle.net_core.specs.Ports.{inputs_of, outputs_of, ports_of, carried_of, Interface, interface_of, inout_bits, are_joined, IsClockRoot}

-- the variant of a RAM cell
abbrev pub variant_of : Library → RamCell → Option Variant
variant_of lib c = option_and_then (λ (k : RamKind). slice_get k.variants c.variant) (slice_get lib.rams c.ram)

-- The wave is a run over what happens: the inputs have their values, and every cell allows it. Nets that nothing drives
-- have any values. This is said of modules whose memories are gathered.
pub record Run (lib : Library) (m : Module) (events : List Happening) (v : Wave) : Type 0 where
  pub inputs : (t : ℕ) (e : Happening) → At events t e → (k n : ℕ) (b : Bool) → slice_get (inputs_of m) k ≡ Some n → slice_get e.values k ≡ Some b → v t n ≡ b
  pub combs : (i : ℕ) (c : Comb) → slice_get m.combs i ≡ Some c → CombAllows c events v
  pub regs : (i : ℕ) (r : Reg) → slice_get m.regs i ≡ Some r → RegAllows (inputs_of m) r events v
  pub mems : (i : ℕ) (x : Mem) → slice_get m.mems i ≡ Some x → MemAllows (inputs_of m) x events v
  pub rams : (i : ℕ) (c : RamCell) → slice_get m.rams i ≡ Some c → (x : Variant) → variant_of lib c ≡ Some x → RamAllows (inputs_of m) x c events v

-- what a wave shows at these bits, from moment t on
abbrev pub shown : List Bit → Wave → ℕ → List Happening → List (List Bool)
shown bits v t [] = []
shown bits v t (e ∷ es) = values_of (v t) bits ∷ shown bits v (suc t) es

-- these values of the outputs, with these happenings, are a trace of the module
pub record HasTrace (lib : Library) (m : Module) (events : List Happening) (outs : List (List Bool)) : Type 0 where
  pub wave : Wave
  pub run : Run lib m events wave
  pub shows : outs ≡ shown (outputs_of m) wave 0 events

-- What a module is to those around it is the same: its name and attributes, its ports, its carried cells with how inout bits
-- are joined, and no input is a clock root that was none. The instances of modules are known by the interfaces.
pub record SameFrame (modules : List Interface) (old new : Module) : Type 0 where
  pub name : new.name ≡ old.name
  pub attrs : new.attrs ≡ old.attrs
  pub ports : ports_of new ≡ ports_of old
  pub carried : carried_of new ≡ carried_of old
  pub joins : (i j : ℕ) → are_joined (inout_bits modules new) i j ≡ are_joined (inout_bits modules old) i j
  pub roots : (place : ℕ) → IsClockRoot new place → IsClockRoot old place

-- the new module does only what the old one may do
pub record RefinesModule (lib : Library) (modules : List Interface) (old new : Module) : Type 0 where
  pub frame : SameFrame modules old new
  pub traces : (events : List Happening) (outs : List (List Bool)) → HasTrace lib new events outs → HasTrace lib old events outs

abbrev pub interfaces : Design → List Interface
interfaces d = map interface_of d.modules

-- the same modules in the same order, each of which refines that of the old design
pub record Refines (lib : Library) (old new : Design) : Type 0 where
  pub count : length new.modules ≡ length old.modules
  pub modules : (i : ℕ) (a b : Module) → slice_get old.modules i ≡ Some a → slice_get new.modules i ≡ Some b → RefinesModule lib (interfaces old) a b

-- every list of happenings has a run
abbrev pub Live : Library → Module → Type 0
Live lib m = (events : List Happening) → (v : Wave) × Run lib m events v

abbrev pub IsLive : Library → Design → Type 0
IsLive lib d = (i : ℕ) (m : Module) → slice_get d.modules i ≡ Some m → Live lib m

-- The output at a place has this value at the last of these moments, whatever run there is over all of them.
abbrev pub IsDefined : Library → Module → List Happening → Happening → ℕ → Bool → Type 0
IsDefined lib m before last k b = (v : Wave) → Run lib m (before ++ last ∷ []) v → bit_at (values_of (v (length before)) (outputs_of m)) k ≡ b

-- each slot says of itself whether it reads at once, as its kind does
abbrev pub ReadsAgree : Library → Module → Type 0
ReadsAgree lib m =
    (i : ℕ) (c : RamCell) → slice_get m.rams i ≡ Some c → (x : Variant) → variant_of lib c ≡ Some x → (j : ℕ) (s : Slot) → slice_get (slots_of x c) j ≡ Some s → s.pins.reads_now ≡ reads_now s.kind.kind

-- The law: a module whose nets have one driver each and which has a combinational order has a run over every list of
-- happenings.
abbrev pub OrderedIsLive : Type 0
OrderedIsLive = (lib : Library) (m : Module) → HasOneDriver m → ReadsAgree lib m → Ordered m → Live lib m

-- The laws of refinement: each design refines itself, refinements compose, and what the old module defines, the new one shows.
abbrev pub RefinesItself : Type 0
RefinesItself = (lib : Library) (d : Design) → Refines lib d d

abbrev pub RefinementsCompose : Type 0
RefinementsCompose = (lib : Library) (a b c : Design) → Refines lib a b → Refines lib b c → Refines lib a c

abbrev pub KeepsDefined : Type 0
KeepsDefined =
    (lib : Library) (modules : List Interface) (old new : Module) → RefinesModule lib modules old new → (before : List Happening) (last : Happening) (k : ℕ) (b : Bool) → IsDefined lib old before last k b → IsDefined lib new before last k b
