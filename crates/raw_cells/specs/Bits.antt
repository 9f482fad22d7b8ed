-- The bits at the pins of a cell, once each place of a module has its bit.
use Rattle.std.specs.Prelude.{ℕ, List, [], ◌∷◌, map, Option, Some, None}
use Rattle.std.specs.List.{find}
use Rattle.std.specs.Str.{bytes_eq}
use Rattle.net_core.specs.declared.bits.Bit.{Bit}
use Rattle.net_core.specs.declared.bits.Bit.TheVariants.{Zero}
use Rattle.net_wires.specs.declared.source.Source.{Source}
use Rattle.net_wires.specs.Nets.{bit_of}
use Rattle.raw_cells.specs.declared.raw.RawPin.{RawPin}

abbrev pub pin_named : List RawPin → List ℕ → Option RawPin
pin_named pins name = find (λ (p : RawPin). bytes_eq p.name name) pins

abbrev pub sources_of : Option RawPin → List Source
sources_of None = []
sources_of (Some p) = p.bits

-- what stands at the pin of a name; nothing where the cell has no such pin
abbrev pub sources_at : List RawPin → List ℕ → List Source
sources_at pins name = sources_of (pin_named pins name)

abbrev pub bits_of : List Bit → List Source → List Bit
bits_of places sources = map (bit_of places) sources

abbrev pub bits_at : List Bit → List RawPin → List ℕ → List Bit
bits_at places pins name = bits_of places (sources_at pins name)

abbrev pub first_or_zero : List Bit → Bit
first_or_zero [] = Zero
first_or_zero (b ∷ bs) = b

-- the bit at a pin of one bit; 0 where the cell has no such pin
abbrev pub bit_at : List Bit → List RawPin → List ℕ → Bit
bit_at places pins name = first_or_zero (bits_at places pins name)
