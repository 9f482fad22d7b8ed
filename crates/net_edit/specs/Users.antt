-- The places where a module reads a net.
use Rattle.std.specs.Prelude.{ℕ, ◌-◌, ◌^◌, min, Bool, false, cond, List, [], ◌++◌, nat_eq, count_by}
use Rattle.std.specs.List.{flat_map}
use Rattle.net_core.specs.declared.bits.Bit.{Bit}
use Rattle.net_core.specs.declared.bits.Bit.TheVariants.{Zero, One, Net}
use Rattle.net_core.specs.declared.cells.Carried.{Carried}
use Rattle.net_core.specs.declared.cells.Pin.{Pin}
use Rattle.net_core.specs.declared.modules.MemPart.{MemPart}
use Rattle.net_core.specs.declared.modules.Wire.{Wire}
use Rattle.net_core.specs.declared.modules.Module.{Module}
use Rattle.net_core.specs.Pins.{comb_bits, reg_bits, mem_bits, ram_bits}
use Rattle.net_core.specs.Ports.{is_output_wire}

-- the bits of a pin that reads
abbrev pub pin_bits : Pin → List Bit
pin_bits p = cond p.drives [] p.bits

-- the bits that a carried cell reads, and those that a memory cell does whose memory is still to be gathered
abbrev pub carried_reads : Carried → List Bit
carried_reads c = flat_map pin_bits c.pins

abbrev pub part_reads : MemPart → List Bit
part_reads p = flat_map pin_bits p.pins

-- the bits of an output wire
abbrev pub output_bits : Wire → List Bit
output_bits w = cond (is_output_wire w) w.bits []

-- the bits that are read: by cells, memories and carried cells, and in output wires; one that is read twice stands twice
abbrev pub read_bits_of : Module → List Bit
read_bits_of m =
    flat_map comb_bits m.combs ++ (flat_map reg_bits m.regs ++ (flat_map mem_bits m.mems ++ (flat_map ram_bits m.rams ++ (flat_map carried_reads m.carried ++ (flat_map part_reads m.parts ++ flat_map output_bits m.wires)))))

abbrev pub is_net_of : ℕ → Bit → Bool
is_net_of net Zero = false
is_net_of net One = false
is_net_of net (Net n) = nat_eq n net

abbrev pub uses_in : ℕ → List Bit → ℕ
uses_in net bits = count_by (is_net_of net) bits

-- no more than a number of 64 bits tells
abbrev pub capped : ℕ → ℕ
capped n = min n (2 ^ 64 - 1)

-- how often the module reads the net
abbrev pub users_of : Module → ℕ → ℕ
users_of m net = uses_in net (read_bits_of m)
