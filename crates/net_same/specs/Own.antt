-- The nets that the parts of a module mention, and modules and designs whose nets are their own.
use Rattle.std.specs.Prelude.{ℕ, ◌<◌, List, [], ◌∷◌, ◌++◌, Option, Some, None}
use Rattle.std.specs.List.{AllByRecursion, flat_map}
use Rattle.net_core.specs.declared.bits.Bit.{Bit}
use Rattle.net_core.specs.declared.bits.Bit.TheVariants.{Zero, One, Net}
use Rattle.net_core.specs.declared.bits.Clock.{Clock}
use Rattle.net_core.specs.declared.bits.Clock.TheVariants.{Root, Never}
use Rattle.net_core.specs.declared.cells.Comb.{Comb}
use Rattle.net_core.specs.declared.cells.Reg.{Reg}
use Rattle.net_core.specs.declared.cells.Pin.{Pin}
use Rattle.net_core.specs.declared.cells.Carried.{Carried}
use Rattle.net_core.specs.declared.mems.Mem.{Mem}
use Rattle.net_core.specs.declared.mems.RdPort.{RdPort}
use Rattle.net_core.specs.declared.mems.WrPort.{WrPort}
use Rattle.net_core.specs.declared.rams.SlotUse.{SlotUse}
use Rattle.net_core.specs.declared.rams.RamCell.{RamCell}
use Rattle.net_core.specs.declared.modules.Wire.{Wire}
use Rattle.net_core.specs.declared.modules.Module.{Module}
use Rattle.net_core.specs.declared.modules.Design.{Design}

abbrev pub bit_nets : Bit → List ℕ
bit_nets Zero = []
bit_nets One = []
bit_nets (Net n) = n ∷ []

abbrev pub bits_nets : List Bit → List ℕ
bits_nets bits = flat_map bit_nets bits

abbrev pub clock_nets : Clock → List ℕ
clock_nets (Root net rising) = net ∷ []
clock_nets Never = []

abbrev pub read_clock_nets : Option Clock → List ℕ
read_clock_nets None = []
read_clock_nets (Some c) = clock_nets c

abbrev pub wire_nets : Wire → List ℕ
wire_nets w = bits_nets w.bits

abbrev pub comb_nets : Comb → List ℕ
comb_nets c = bits_nets c.a ++ (bits_nets c.b ++ (bits_nets c.s ++ c.y))

abbrev pub reg_nets : Reg → List ℕ
reg_nets r = clock_nets r.clock ++ (bit_nets r.en ++ (bit_nets r.arst ++ (bit_nets r.srst ++ (bits_nets r.d ++ r.q))))

abbrev pub read_nets : RdPort → List ℕ
read_nets r = read_clock_nets r.clock ++ (bit_nets r.en ++ (bits_nets r.addr ++ (r.out ++ (bit_nets r.arst ++ bit_nets r.srst))))

abbrev pub write_nets : WrPort → List ℕ
write_nets w = clock_nets w.clock ++ (bits_nets w.en ++ (bits_nets w.addr ++ bits_nets w.value))

abbrev pub mem_nets : Mem → List ℕ
mem_nets x = flat_map read_nets x.reads ++ flat_map write_nets x.writes

abbrev pub slot_nets : SlotUse → List ℕ
slot_nets s =
    clock_nets s.clock
    ++ (bit_nets s.clken ++ (bits_nets s.addr ++ (bit_nets s.rden ++ (bit_nets s.srst ++ (bit_nets s.arst ++ (s.out ++ (bits_nets s.value ++ (bits_nets s.wren ++ bits_nets s.wrbe))))))))

abbrev pub ram_nets : RamCell → List ℕ
ram_nets c = flat_map slot_nets c.slots

abbrev pub pin_nets : Pin → List ℕ
pin_nets p = bits_nets p.bits

abbrev pub carried_nets : Carried → List ℕ
carried_nets c = flat_map pin_nets c.pins

-- the nets that the memories and cells of a module mention; memories that are still to be gathered are left out
abbrev pub cells_nets : Module → List ℕ
cells_nets m = flat_map mem_nets m.mems ++ (flat_map comb_nets m.combs ++ (flat_map reg_nets m.regs ++ (flat_map ram_nets m.rams ++ flat_map carried_nets m.carried)))

-- and those that its wires mention
abbrev pub mentioned : Module → List ℕ
mentioned m = flat_map wire_nets m.wires ++ cells_nets m

-- each is the number of one of so many nets
abbrev pub AreBelow : ℕ → List ℕ → Type 0
AreBelow count nets = AllByRecursion (λ n. n < count) nets

-- each net that the module mentions is one of those that it says it has
pub record NetsAreOwn (m : Module) : Type 0 where
  pub below : AreBelow m.nets (mentioned m)

-- and so in each module of a design
pub record DesignNetsAreOwn (d : Design) : Type 0 where
  pub modules : AllByRecursion NetsAreOwn d.modules
