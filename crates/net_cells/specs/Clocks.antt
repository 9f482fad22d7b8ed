-- Clock pins of memory cells: the net of the root, with inverters taken into the polarity.
use Rattle.std.specs.Prelude.{Bool, false, List, map}
use Rattle.net_core.specs.declared.bits.Bit.{Bit}
use Rattle.net_core.specs.declared.bits.Bit.TheVariants as bits
use Rattle.net_wires.specs.declared.clock.ClockRoot.{ClockRoot}
use Rattle.net_wires.specs.declared.clock.ClockRoot.TheVariants as leads
use Rattle.net_wires.specs.declared.source.Source.{Source}
use Rattle.net_wires.specs.Clocks.{clock_of}
use Rattle.net_wires.specs.Nets.{bit_of}
use Rattle.raw_cells.specs.Clocks.{place_bit}

abbrev pub is_flipped : ClockRoot → Bool
is_flipped leads.Never = false
is_flipped leads.Unknown = false
is_flipped (leads.Root p flipped) = flipped

abbrev pub flip : List ClockRoot → Source → Bool
flip roots s = is_flipped (clock_of roots s)

abbrev pub flips : List ClockRoot → List Source → List Bool
flips roots sources = map (λ s. flip roots s) sources

-- constant 0 where it has no edges; a pin that leads nowhere is one that is not looked at
abbrev pub bit_by : List Bit → Source → ClockRoot → Bit
bit_by places s leads.Never = bits.Zero
bit_by places s leads.Unknown = bit_of places s
bit_by places s (leads.Root p flipped) = place_bit places p

abbrev pub clock_bit : List Bit → List ClockRoot → Source → Bit
clock_bit places roots s = bit_by places s (clock_of roots s)
