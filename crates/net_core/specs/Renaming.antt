-- A module with other numbers for its nets.
use Rattle.std.specs.Prelude.{◌≡◌, ◌↔◌, ℕ, Bool, List, map, Option, Some, None}
use Rattle.lib_core.specs.declared.library.Library.{Library}
use Rattle.net_core.specs.declared.bits.Bit.{Bit}
use Rattle.net_core.specs.declared.bits.Bit.TheVariants.{Zero, One, Net}
use Rattle.net_core.specs.declared.bits.Clock.{Clock}
use Rattle.net_core.specs.declared.bits.Clock.TheVariants.{Root, Never}
use Rattle.net_core.specs.declared.cells.Comb.{Comb}
use Rattle.net_core.specs.declared.cells.Reg.{Reg}
use Rattle.net_core.specs.declared.cells.Pin.{Pin}
use Rattle.net_core.specs.declared.cells.Carried.{Carried}
use Rattle.net_core.specs.declared.mems.Mem.{Mem}
use Rattle.net_core.specs.declared.mems.RdPort.{RdPort}
use Rattle.net_core.specs.declared.mems.WrPort.{WrPort}
use Rattle.net_core.specs.declared.rams.SlotUse.{SlotUse}
use Rattle.net_core.specs.declared.rams.RamCell.{RamCell}
use Rattle.net_core.specs.declared.modules.Wire.{Wire}
use Rattle.net_core.specs.declared.modules.Module.{Module}
use Rattle.net_core.specs.Values.{Wave, Happening}
use Rattle.net_core.specs.Nodes.{Ordered}
use Rattle.net_core.specs.Ports.{Interface}
use Rattle.net_core.specs.Runs.{Run, HasTrace, RefinesModule}

module _ (f : ℕ → ℕ) where
  abbrev pub renamed_bit : Bit → Bit
  renamed_bit Zero = Zero
  renamed_bit One = One
  renamed_bit (Net n) = Net (f n)

  abbrev pub renamed_bits : List Bit → List Bit
  renamed_bits bits = map renamed_bit bits

  abbrev pub renamed_clock : Clock → Clock
  renamed_clock (Root net rising) = Root (f net) rising
  renamed_clock Never = Never

  abbrev pub renamed_read_clock : Option Clock → Option Clock
  renamed_read_clock None = None
  renamed_read_clock (Some c) = Some (renamed_clock c)

  abbrev pub renamed_comb : Comb → Comb
  renamed_comb c = record c { a = renamed_bits c.a; b = renamed_bits c.b; s = renamed_bits c.s; y = map f c.y }

  abbrev pub renamed_reg : Reg → Reg
  renamed_reg r = record r { clock = renamed_clock r.clock; en = renamed_bit r.en; arst = renamed_bit r.arst; srst = renamed_bit r.srst; d = renamed_bits r.d; q = map f r.q }

  abbrev pub renamed_read : RdPort → RdPort
  renamed_read r = record r { clock = renamed_read_clock r.clock; en = renamed_bit r.en; addr = renamed_bits r.addr; out = map f r.out; arst = renamed_bit r.arst; srst = renamed_bit r.srst }

  abbrev pub renamed_write : WrPort → WrPort
  renamed_write w = record w { clock = renamed_clock w.clock; en = renamed_bits w.en; addr = renamed_bits w.addr; value = renamed_bits w.value }

  abbrev pub renamed_mem : Mem → Mem
  renamed_mem x = record x { reads = map renamed_read x.reads; writes = map renamed_write x.writes }

  abbrev pub renamed_slot : SlotUse → SlotUse
  renamed_slot s = record s {
    clock = renamed_clock s.clock;
    clken = renamed_bit s.clken;
    addr = renamed_bits s.addr;
    rden = renamed_bit s.rden;
    srst = renamed_bit s.srst;
    arst = renamed_bit s.arst;
    out = map f s.out;
    value = renamed_bits s.value;
    wren = renamed_bits s.wren;
    wrbe = renamed_bits s.wrbe;
  }

  abbrev pub renamed_ram : RamCell → RamCell
  renamed_ram c = record c { slots = map renamed_slot c.slots }

  abbrev pub renamed_pin : Pin → Pin
  renamed_pin p = record p { bits = renamed_bits p.bits }

  abbrev pub renamed_carried : Carried → Carried
  renamed_carried c = record c { pins = map renamed_pin c.pins }

  abbrev pub renamed_wire : Wire → Wire
  renamed_wire w = record w { bits = renamed_bits w.bits }

  -- the module with other numbers for the nets of its wires and cells
  abbrev pub renamed : Module → Module
  renamed m = record m {
    wires = map renamed_wire m.wires;
    mems = map renamed_mem m.mems;
    combs = map renamed_comb m.combs;
    regs = map renamed_reg m.regs;
    rams = map renamed_ram m.rams;
    carried = map renamed_carried m.carried;
  }

-- the numbers can be told back
abbrev pub IsTold : (ℕ → ℕ) → (ℕ → ℕ) → Type 0
IsTold f g = (n : ℕ) → g (f n) ≡ n

-- The laws: a module with its nets renamed allows a wave exactly where the module allows the renamed wave, and has the same
-- traces.
abbrev pub RenamingKeepsRuns : Type 0
RenamingKeepsRuns = (lib : Library) (m : Module) (f g : ℕ → ℕ) → IsTold f g → (events : List Happening) (v : Wave) → Run lib (renamed f m) events v ↔ Run lib m events (λ t n. v t (f n))

abbrev pub RenamingKeepsTraces : Type 0
RenamingKeepsTraces = (lib : Library) (m : Module) (f g : ℕ → ℕ) → IsTold f g → (events : List Happening) (outs : List (List Bool)) → HasTrace lib (renamed f m) events outs ↔ HasTrace lib m events outs

-- and it is to those around it what it was, and has the same orders
abbrev pub RenamingRefines : Type 0
RenamingRefines = (lib : Library) (modules : List Interface) (m : Module) (f g : ℕ → ℕ) → IsTold f g → RefinesModule lib modules m (renamed f m) × RefinesModule lib modules (renamed f m) m

abbrev pub RenamingKeepsOrder : Type 0
RenamingKeepsOrder = (m : Module) (f g : ℕ → ℕ) → IsTold f g → Ordered m ↔ Ordered (renamed f m)
