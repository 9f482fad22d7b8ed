-- A module whose readers read other bits: for each net the list has the bit that stands in its place wherever it is read. What
-- drives nets stays, and so do input wires, inout wires and clocks.
use Rattle.std.specs.Prelude.{cond, List, map, Option, Some, None, slice_get}
use Rattle.net_core.specs.declared.bits.Bit.{Bit}
use Rattle.net_core.specs.declared.bits.Bit.TheVariants.{Zero, One, Net}
use Rattle.net_core.specs.declared.cells.Comb.{Comb}
use Rattle.net_core.specs.declared.cells.Reg.{Reg}
use Rattle.net_core.specs.declared.cells.Pin.{Pin}
use Rattle.net_core.specs.declared.cells.Carried.{Carried}
use Rattle.net_core.specs.declared.mems.Mem.{Mem}
use Rattle.net_core.specs.declared.mems.RdPort.{RdPort}
use Rattle.net_core.specs.declared.mems.WrPort.{WrPort}
use Rattle.net_core.specs.declared.rams.SlotUse.{SlotUse}
use Rattle.net_core.specs.declared.rams.RamCell.{RamCell}
use Rattle.net_core.specs.declared.modules.Wire.{Wire}
use Rattle.net_core.specs.declared.modules.MemPart.{MemPart}
use Rattle.net_core.specs.declared.modules.Module.{Module}
use Rattle.net_edit.specs.Edits.{Editing}

-- a bit of the list, or another where there is none
abbrev pub bit_or : Bit → Option Bit → Bit
bit_or b None = b
bit_or b (Some c) = c

module _ (reads : List Bit) where
  abbrev pub bit_read : Bit → Bit
  bit_read Zero = Zero
  bit_read One = One
  bit_read (Net n) = bit_or (Net n) (slice_get reads n)

  abbrev pub bits_read : List Bit → List Bit
  bits_read bits = map bit_read bits

  abbrev pub redirected_comb : Comb → Comb
  redirected_comb c = record c { a = bits_read c.a; b = bits_read c.b; s = bits_read c.s }

  abbrev pub redirected_reg : Reg → Reg
  redirected_reg r = record r { en = bit_read r.en; arst = bit_read r.arst; srst = bit_read r.srst; d = bits_read r.d }

  abbrev pub redirected_read : RdPort → RdPort
  redirected_read r = record r { en = bit_read r.en; addr = bits_read r.addr; arst = bit_read r.arst; srst = bit_read r.srst }

  abbrev pub redirected_write : WrPort → WrPort
  redirected_write w = record w { en = bits_read w.en; addr = bits_read w.addr; value = bits_read w.value }

  abbrev pub redirected_mem : Mem → Mem
  redirected_mem x = record x { reads = map redirected_read x.reads; writes = map redirected_write x.writes }

  abbrev pub redirected_slot : SlotUse → SlotUse
  redirected_slot s = record s {
    clken = bit_read s.clken;
    addr = bits_read s.addr;
    rden = bit_read s.rden;
    srst = bit_read s.srst;
    arst = bit_read s.arst;
    value = bits_read s.value;
    wren = bits_read s.wren;
    wrbe = bits_read s.wrbe;
  }

  abbrev pub redirected_ram : RamCell → RamCell
  redirected_ram c = record c { slots = map redirected_slot c.slots }

  -- a pin that the cell drives stays
  abbrev pub redirected_pin : Pin → Pin
  redirected_pin p = record p { bits = cond p.drives p.bits (bits_read p.bits) }

  abbrev pub redirected_carried : Carried → Carried
  redirected_carried c = record c { pins = map redirected_pin c.pins }

  abbrev pub redirected_part : MemPart → MemPart
  redirected_part p = record p { pins = map redirected_pin p.pins }

  -- input wires and inout wires stay
  abbrev pub redirected_wire : Wire → Wire
  redirected_wire w = record w { bits = cond w.input w.bits (bits_read w.bits) }

  abbrev pub redirected : Module → Module
  redirected m = record m {
    wires = map redirected_wire m.wires;
    parts = map redirected_part m.parts;
    mems = map redirected_mem m.mems;
    combs = map redirected_comb m.combs;
    regs = map redirected_reg m.regs;
    rams = map redirected_ram m.rams;
    carried = map redirected_carried m.carried;
  }

-- the module that an edit gives
abbrev pub finished : Editing → Module
finished e = redirected e.reads e.netlist
