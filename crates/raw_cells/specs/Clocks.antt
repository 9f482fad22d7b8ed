-- What a clock pin is, by where its place leads.
use Rattle.std.specs.Prelude.{ℕ, Bool, List, [], ◌∷◌, get_or}
use Rattle.net_core.specs.declared.bits.Bit.{Bit}
use Rattle.net_core.specs.declared.bits.Bit.TheVariants as bits
use Rattle.net_core.specs.declared.bits.Clock.{Clock}
use Rattle.net_core.specs.declared.bits.Clock.TheVariants as clock
use Rattle.net_core.specs.Logic.{xor}
use Rattle.net_wires.specs.declared.clock.ClockRoot.{ClockRoot}
use Rattle.net_wires.specs.declared.clock.ClockRoot.TheVariants as leads
use Rattle.net_wires.specs.declared.source.Source.{Source}
use Rattle.net_wires.specs.Clocks.{clock_of}
use Rattle.raw_cells.specs.declared.raw.RawPin.{RawPin}
use Rattle.raw_cells.specs.Bits.{sources_at}

abbrev pub place_bit : List Bit → ℕ → Bit
place_bit places p = get_or places p bits.Zero

-- the edges of the net of a root
abbrev pub root_clock : Bit → Bool → Clock
root_clock bits.Zero rising = clock.Never
root_clock bits.One rising = clock.Never
root_clock (bits.Net n) rising = clock.Root n rising

-- an inverter between the root and the pin changes the edge
abbrev pub clock_by : List Bit → Bool → ClockRoot → Clock
clock_by places rising leads.Never = clock.Never
clock_by places rising leads.Unknown = clock.Never
clock_by places rising (leads.Root p flipped) = root_clock (place_bit places p) (xor rising flipped)

abbrev pub first_root : List ClockRoot → List Source → ClockRoot
first_root roots [] = leads.Unknown
first_root roots (s ∷ ss) = clock_of roots s

-- the clock at a pin
abbrev pub clock_at : List Bit → List ClockRoot → List RawPin → List ℕ → Bool → Clock
clock_at places roots pins name rising = clock_by places rising (first_root roots (sources_at pins name))
