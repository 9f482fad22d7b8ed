-- Pieces of the pins and values of a memory cell.
use Rattle.std.specs.Prelude.{ℕ, ◌+◌, ◌*◌, ◌-◌, Bool, false, List, [], ◌∷◌, ◌++◌, map, take, drop, replicate, length, min, get_or, Option, Some, None}
use Rattle.std.specs.List.{find}
use Rattle.std.specs.Str.{bytes_eq}
use Rattle.lib_core.specs.declared.library.Tri.{Tri}
use Rattle.net_core.specs.declared.bits.Bit.{Bit}
use Rattle.net_core.specs.declared.bits.Bit.TheVariants.{Zero, One, Net}
use Rattle.net_core.specs.declared.bits.Clock.{Clock}
use Rattle.net_core.specs.declared.bits.Clock.TheVariants.{Root, Never}
use Rattle.net_core.specs.declared.cells.Pin.{Pin}

abbrev pub bits_of_pin : Option Pin → List Bit
bits_of_pin None = []
bits_of_pin (Some p) = p.bits

abbrev pub pin_named : List Pin → List ℕ → Option Pin
pin_named pins name = find (λ (p : Pin). bytes_eq p.name name) pins

-- the bits of the pin of a name
abbrev pub pin_bits : List Pin → List ℕ → List Bit
pin_bits pins name = bits_of_pin (pin_named pins name)

-- so many items from a place on
abbrev pub cut : {X : Type 0} → ℕ → ℕ → List X → List X
cut from count xs = take count (drop from xs)

abbrev pub bit_or_zero : List Bit → ℕ → Bit
bit_or_zero bits k = get_or bits k Zero

abbrev pub flag_or_false : List Bool → ℕ → Bool
flag_or_false flags k = get_or flags k false

-- the low bits of the address of a port of several words count as 0
unfoldable pub address : ℕ → List Bit → List Bit
address wide bits = replicate (min wide (length bits)) Zero ++ drop wide bits

-- a clock pin has the net of its root; a constant has no edges
abbrev pub clock_of : Bit → Bool → Clock
clock_of Zero rising = Never
clock_of One rising = Never
clock_of (Net net) rising = Root net rising
