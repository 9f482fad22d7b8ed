-- Refinement by waves: each run of the new module is one of the old, but for nets that are hidden.
use Rattle.std.specs.Prelude.{◌≡◌, ℕ, Bool, true, false, not, ◌&&◌, List, ◌++◌, nat_eq}
use Rattle.std.specs.List.{list_any, list_all}
use Rattle.lib_core.specs.declared.library.Library.{Library}
use Rattle.net_core.specs.declared.bits.Bit.{Bit}
use Rattle.net_core.specs.declared.bits.Bit.TheVariants.{Zero as Low, One as High, Net}
use Rattle.net_core.specs.declared.cells.Comb.{Comb}
use Rattle.net_core.specs.declared.cells.Reg.{Reg}
use Rattle.net_core.specs.declared.mems.Mem.{Mem}
use Rattle.net_core.specs.declared.mems.RdPort.{RdPort}
use Rattle.net_core.specs.declared.mems.WrPort.{WrPort}
use Rattle.net_core.specs.declared.rams.SlotUse.{SlotUse}
use Rattle.net_core.specs.declared.rams.RamCell.{RamCell}
use Rattle.net_core.specs.declared.modules.Module.{Module}
use Rattle.net_core.specs.Values.{Valuation, Wave, Happening, At, values_of}
use Rattle.lib_core.specs.declared.library.Variant.{Variant}
use Rattle.net_core.specs.Cells.{CombAllows, RegAllows}
use Rattle.net_core.specs.Memory.{MemAllows}
use Rattle.net_core.specs.Ram.{RamAllows}
use Rattle.net_core.specs.Ports.{Interface, outputs_of}
use Rattle.net_core.specs.Runs.{Run, SameFrame, RefinesModule}

-- the net is one of these
abbrev pub among : List ℕ → ℕ → Bool
among nets n = list_any (λ x. nat_eq x n) nets

-- two valuations agree but for these nets
abbrev pub SameOff : List ℕ → Valuation → Valuation → Type 0
SameOff nets v w = (n : ℕ) → among nets n ≡ false → v n ≡ w n

-- what touches none of these nets: bits, and the pins that cells and ports read (their clocks are inputs, which no wave may
-- change)
abbrev pub bit_avoids : List ℕ → Bit → Bool
bit_avoids nets Low = true
bit_avoids nets High = true
bit_avoids nets (Net n) = not (among nets n)

abbrev pub bits_avoid : List ℕ → List Bit → Bool
bits_avoid nets bits = list_all (bit_avoids nets) bits

abbrev pub nets_avoid : List ℕ → List ℕ → Bool
nets_avoid nets outs = list_all (λ n. not (among nets n)) outs

abbrev pub comb_avoids : List ℕ → Comb → Bool
comb_avoids nets c = bits_avoid nets c.a && (bits_avoid nets c.b && bits_avoid nets c.s)

abbrev pub reg_avoids : List ℕ → Reg → Bool
reg_avoids nets r = bit_avoids nets r.en && (bit_avoids nets r.arst && (bit_avoids nets r.srst && bits_avoid nets r.d))

abbrev pub read_avoids : List ℕ → RdPort → Bool
read_avoids nets p = bit_avoids nets p.en && (bit_avoids nets p.arst && (bit_avoids nets p.srst && bits_avoid nets p.addr))

abbrev pub write_avoids : List ℕ → WrPort → Bool
write_avoids nets p = bits_avoid nets p.en && (bits_avoid nets p.addr && bits_avoid nets p.value)

abbrev pub mem_avoids : List ℕ → Mem → Bool
mem_avoids nets x = list_all (read_avoids nets) x.reads && list_all (write_avoids nets) x.writes

abbrev pub slot_avoids : List ℕ → SlotUse → Bool
slot_avoids nets s =
    bit_avoids nets s.clken && (bit_avoids nets s.rden && (bit_avoids nets s.srst && (bit_avoids nets s.arst && (bits_avoid nets s.addr && (bits_avoid nets s.value && (bits_avoid nets s.wren && bits_avoid nets s.wrbe))))))

abbrev pub ram_avoids : List ℕ → RamCell → Bool
ram_avoids nets c = list_all (slot_avoids nets) c.slots

abbrev pub read_outs_avoid : List ℕ → Mem → Bool
read_outs_avoid nets x = list_all (λ (p : RdPort). nets_avoid nets p.out) x.reads

abbrev pub slot_outs_avoid : List ℕ → RamCell → Bool
slot_outs_avoid nets c = list_all (λ (s : SlotUse). nets_avoid nets s.out) c.slots

-- a run of the old module that shows at its outputs what this run of the new one shows, and differs only at hidden nets
pub record Simulated (lib : Library) (hidden : List ℕ) (old new : Module) (events : List Happening) (v : Wave) : Type 0 where
  pub wave : Wave
  pub run : Run lib old events wave
  pub same : (t : ℕ) → SameOff hidden (v t) (wave t)
  pub shows : (t : ℕ) (e : Happening) → At events t e → values_of (v t) (outputs_of new) ≡ values_of (wave t) (outputs_of old)

-- each run of the new module is simulated by the old one
pub record Simulates (lib : Library) (modules : List Interface) (hidden : List ℕ) (old new : Module) : Type 0 where
  pub frame : SameFrame modules old new
  pub runs : (events : List Happening) (v : Wave) → Run lib new events v → Simulated lib hidden old new events v

-- a test of the values of some bits holds at each moment of each run
abbrev pub Always : Library → Module → List Bit → (List Bool → Bool) → Type 0
Always lib m bits test = (events : List Happening) (v : Wave) → Run lib m events v → (t : ℕ) (e : Happening) → At events t e → test (values_of (v t) bits) ≡ true

-- The laws of simulation: it is refinement, it composes, a module simulates itself, and what always holds of bits that are not
-- hidden still holds.
abbrev pub SimulationRefines : Type 0
SimulationRefines = (lib : Library) (modules : List Interface) (hidden : List ℕ) (old new : Module) → Simulates lib modules hidden old new → RefinesModule lib modules old new

abbrev pub SimulatesItself : Type 0
SimulatesItself = (lib : Library) (modules : List Interface) (hidden : List ℕ) (m : Module) → Simulates lib modules hidden m m

abbrev pub SimulationsCompose : Type 0
SimulationsCompose =
    (lib : Library) (modules : List Interface) (first second : List ℕ) (a b c : Module) → Simulates lib modules first a b → Simulates lib modules second b c → Simulates lib modules (first ++ second) a c

abbrev pub KeepsAlways : Type 0
KeepsAlways =
    (lib : Library) (modules : List Interface) (hidden : List ℕ) (old new : Module) (bits : List Bit) (test : List Bool → Bool) → Simulates lib modules hidden old new → bits_avoid hidden bits ≡ true → Always lib old bits test → Always lib new bits test

-- The law: a cell that touches none of some nets allows a wave that is patched there.
abbrev pub PatchedIsAllowed : Type 0
PatchedIsAllowed =
    (nets inputs : List ℕ) (events : List Happening) (v w : Wave) → ((t : ℕ) → SameOff nets (v t) (w t)) → ((c : Comb) → comb_avoids nets c ≡ true → nets_avoid nets c.y ≡ true → CombAllows c events v → CombAllows c events w) × ((r : Reg) → reg_avoids nets r ≡ true → nets_avoid nets r.q ≡ true → RegAllows inputs r events v → RegAllows inputs r events w) × ((x : Mem) → mem_avoids nets x ≡ true → read_outs_avoid nets x ≡ true → MemAllows inputs x events v → MemAllows inputs x events w) × ((x : Variant) (c : RamCell) → ram_avoids nets c ≡ true → slot_outs_avoid nets c ≡ true → RamAllows inputs x c events v → RamAllows inputs x c events w)
