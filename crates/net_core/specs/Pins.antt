-- The bits that each part of a module reads, and the nets that it drives.
use Rattle.std.specs.Prelude.{List, ◌∷◌, ◌++◌}
use Rattle.std.specs.List.{flat_map}
use Rattle.net_core.specs.declared.bits.Bit.{Bit}
use Rattle.net_core.specs.declared.cells.Comb.{Comb}
use Rattle.net_core.specs.declared.cells.Reg.{Reg}
use Rattle.net_core.specs.declared.cells.Carried.{Carried}
use Rattle.net_core.specs.declared.mems.Mem.{Mem}
use Rattle.net_core.specs.declared.mems.RdPort.{RdPort}
use Rattle.net_core.specs.declared.mems.WrPort.{WrPort}
use Rattle.net_core.specs.declared.rams.SlotUse.{SlotUse}
use Rattle.net_core.specs.declared.rams.RamCell.{RamCell}
use Rattle.net_core.specs.declared.modules.MemPart.{MemPart}
use Rattle.net_core.specs.declared.modules.Module.{Module}
use Rattle.net_core.specs.Ports.{wire_bits, bits_of_pins}

abbrev pub comb_bits : Comb → List Bit
comb_bits c = c.a ++ (c.b ++ c.s)

abbrev pub reg_bits : Reg → List Bit
reg_bits r = r.en ∷ r.arst ∷ r.srst ∷ r.d

abbrev pub read_bits : RdPort → List Bit
read_bits p = p.en ∷ p.arst ∷ p.srst ∷ p.addr

abbrev pub write_bits : WrPort → List Bit
write_bits p = p.en ++ (p.addr ++ p.value)

abbrev pub mem_bits : Mem → List Bit
mem_bits x = flat_map read_bits x.reads ++ flat_map write_bits x.writes

abbrev pub slot_bits : SlotUse → List Bit
slot_bits s = s.clken ∷ s.rden ∷ s.srst ∷ s.arst ∷ (s.addr ++ (s.value ++ (s.wren ++ s.wrbe)))

abbrev pub ram_bits : RamCell → List Bit
ram_bits c = flat_map slot_bits c.slots

abbrev pub carried_bits : Carried → List Bit
carried_bits c = bits_of_pins c.pins

-- the bits of the cells, but for those of carried cells
abbrev pub inner_bits : Module → List Bit
inner_bits m =
    flat_map comb_bits m.combs ++ (flat_map reg_bits m.regs ++ (flat_map mem_bits m.mems ++ (flat_map ram_bits m.rams ++ flat_map (λ (p : MemPart). bits_of_pins p.pins) m.parts)))

-- all bits of the module
abbrev pub all_bits : Module → List Bit
all_bits m = wire_bits m.wires ++ (flat_map carried_bits m.carried ++ inner_bits m)
