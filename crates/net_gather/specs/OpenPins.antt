-- The pins of a cell in their order, before and after their open bits have places. An open bit is a digit of a constant that
-- is neither 0 nor 1, or a bit of a pin that is left out.
use Rattle.std.specs.Prelude.{ℕ, ◌+◌, Bool, true, false, List, [], ◌∷◌, map, length, replicate, Option, Some, None}
use Rattle.std.specs.List.{find, sum_by}
use Rattle.std.specs.Str.{bytes_eq}
use Rattle.cell_rows.specs.declared.pin.PinRow.{PinRow}
use Rattle.net_wires.specs.declared.source.Source.{Source}
use Rattle.net_wires.specs.declared.source.Source.TheVariants as source
use Rattle.net_wires.specs.Settled.{loose_count, settled}
use Rattle.net_gather.specs.declared.file_pin.FilePin.{FilePin}
use Rattle.net_gather.specs.declared.open_pin.OpenPin.{OpenPin}
use Rattle.net_gather.specs.declared.open_pin.PinBits.{PinBits}
use Rattle.net_gather.specs.declared.open_pin.PinBits.TheVariants.{Given, LeftOut}
use Rattle.raw_cells.specs.declared.raw.RawPin.{RawPin}
use Rattle.raw_cells.specs.declared.tied.Tied.{Tied}

-- ---- the pins in their order

abbrev pub in_file : List FilePin → List ℕ → Option FilePin
in_file pins name = find (λ (p : FilePin). bytes_eq p.name name) pins

abbrev pub found_bits : Option FilePin → ℕ → PinBits
found_bits None width = LeftOut width
found_bits (Some p) width = Given p.bits

-- a pin of a table, with the bits that the file gives it
abbrev pub table_pin : List FilePin → PinRow → OpenPin
table_pin pins r = record { name = r.name; drives = r.drives; clock = r.clock; bits = found_bits (in_file pins r.name) r.width }

abbrev pub table_pins : List FilePin → List PinRow → List OpenPin
table_pins pins table = map (table_pin pins) table

-- a pin of a cell that is kept as it is
abbrev pub kept_pin : Bool → FilePin → OpenPin
kept_pin drives p = record { name = p.name; drives = drives; clock = false; bits = Given p.bits }

abbrev pub kept_pins : (List ℕ → Bool) → List FilePin → List OpenPin
kept_pins drives pins = map (λ (p : FilePin). kept_pin (drives p.name) p) pins

-- ---- open bits

-- how many bits a pin has, and how many of them are open
abbrev pub bits_size : PinBits → ℕ
bits_size (Given ss) = length ss
bits_size (LeftOut width) = width

abbrev pub bits_open : PinBits → ℕ
bits_open (Given ss) = loose_count ss
bits_open (LeftOut width) = width

abbrev pub open_count : List OpenPin → ℕ
open_count pins = sum_by (λ (p : OpenPin). bits_open p.bits) pins

-- ---- places

abbrev pub bits_of : PinBits → List Source
bits_of (Given ss) = ss
bits_of (LeftOut width) = replicate width source.Loose

abbrev pub is_given : PinBits → Bool
is_given (Given ss) = true
is_given (LeftOut width) = false

abbrev pub raw_pin : ℕ → OpenPin → RawPin
raw_pin from p = record { name = p.name; given = is_given p.bits; drives = p.drives; clock = p.clock; bits = settled from (bits_of p.bits) }

-- each open bit takes the next place
abbrev pub raw_pins : ℕ → List OpenPin → List RawPin
raw_pins from [] = []
raw_pins from (p ∷ ps) = raw_pin from p ∷ raw_pins (from + bits_open p.bits) ps

-- ---- the pins before open bits have places of their own: what is left out stands at one place, and all digits at another

abbrev pub known_source : Tied → Source → Source
known_source t source.Zero = source.Zero
known_source t source.One = source.One
known_source t source.Loose = source.At t.digit
known_source t (source.At p) = source.At p

abbrev pub known_bits : Tied → PinBits → List Source
known_bits t (Given ss) = map (known_source t) ss
known_bits t (LeftOut width) = replicate width (source.At t.left_out)

abbrev pub known_pin : Tied → OpenPin → RawPin
known_pin t p = record { name = p.name; given = is_given p.bits; drives = p.drives; clock = p.clock; bits = known_bits t p.bits }

abbrev pub known_pins : Tied → List OpenPin → List RawPin
known_pins t pins = map (known_pin t) pins
