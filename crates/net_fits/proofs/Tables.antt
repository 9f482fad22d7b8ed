-- The pins of cells that have the pins of a table.
use Rattle.std.proofs.Common.{◌≡◌, ℕ, suc, ◌≤◌, Bool, true, false, cond, List, [], ◌∷◌, map, length, Option, Some, None, refl, ap, ◌∙◌, arith}
use Rattle.std.specs.Str.{bytes_eq}
use Rattle.rtlil_text.specs.Grammar.{All}
use Rattle.net_core.specs.declared.bits.Bit.{Bit}
use Rattle.net_core.specs.declared.bits.Bit.TheVariants as bits
use Rattle.net_core.specs.Ports.{nets_of}
use Rattle.net_core.specs.Valid.{are_nets}
use Rattle.cell_rows.specs.declared.pin.PinRow.{PinRow}
use Rattle.net_wires.specs.Nets.{bit_of}
use Rattle.raw_cells.specs.declared.raw.RawPin.{RawPin}
use Rattle.net_gather.specs.FilePins.{in_table}
use Rattle.net_gather.specs.Laws.{FitsTable, row_of_pin}
use Rattle.raw_cells.specs.Bits.{bits_at, bits_of, pin_named, sources_at, sources_of}
use Rattle.net_fits.specs.Cells.{DrivesNets, width_of}
use Rattle.net_fits.proofs.Lists.{length_map}

abbrev pub drives_of : Option PinRow → Bool
drives_of None = false
drives_of (Some r) = r.drives

-- ---- widths

width_case : (t : Bool) (p : RawPin) (o : Option RawPin) (q : Option PinRow) → length (sources_of o) ≡ width_of q → length (sources_of (cond t (Some p) o)) ≡ width_of (cond t (Some (row_of_pin p)) q)
width_case true p o q e = refl
width_case false p o q e = e

own_width : (ps : List RawPin) (name : List ℕ) → length (sources_at ps name) ≡ width_of (in_table (map row_of_pin ps) name)
own_width [] name = refl
own_width (p ∷ ps) name = width_case (bytes_eq p.name name) p (pin_named ps name) (in_table (map row_of_pin ps) name) (own_width ps name)

pub pin_width : (table : List PinRow) (ps : List RawPin) (name : List ℕ) → FitsTable table ps → length (sources_at ps name) ≡ width_of (in_table table name)
pin_width table ps name fits = own_width ps name ∙ ap (λ (t : List PinRow). width_of (in_table t name)) fits

pub bits_width : (places : List Bit) (table : List PinRow) (ps : List RawPin) (name : List ℕ) → FitsTable table ps → length (bits_at places ps name) ≡ width_of (in_table table name)
bits_width places table ps name fits = length_map (bit_of places) (sources_at ps name) ∙ pin_width table ps name fits

-- ---- few bits

few_case : (t : Bool) (p : RawPin) (o : Option RawPin) (limit : ℕ) → length p.bits ≤ limit → length (sources_of o) ≤ limit → length (sources_of (cond t (Some p) o)) ≤ limit
few_case true p o limit a b = a
few_case false p o limit a b = b

few_sources : (ps : List RawPin) (name : List ℕ) (limit : ℕ) → All (λ (p : RawPin). length p.bits ≤ limit) ps → length (sources_at ps name) ≤ limit
few_sources [] name limit all = omega arith
few_sources (p ∷ ps) name limit all = few_case (bytes_eq p.name name) p (pin_named ps name) limit all.0 (few_sources ps name limit all.1)

pub few_bits : (places : List Bit) (ps : List RawPin) (name : List ℕ) (limit : ℕ) → All (λ (p : RawPin). length p.bits ≤ limit) ps → length (bits_at places ps name) ≤ limit
few_bits places ps name limit all = omega (arith, length_map (bit_of places) (sources_at ps name), few_sources ps name limit all)

-- ---- nets

nets_case : (places : List Bit) (t : Bool) (p : RawPin) (o : Option RawPin) (q : Option PinRow) → (p.drives ≡ true → are_nets (bits_of places p.bits) ≡ true) → (drives_of q ≡ true → are_nets (bits_of places (sources_of o)) ≡ true)
    → drives_of (cond t (Some (row_of_pin p)) q) ≡ true → are_nets (bits_of places (sources_of (cond t (Some p) o))) ≡ true
nets_case places true p o q a b d = a d
nets_case places false p o q a b d = b d

own_nets : (places : List Bit) (ps : List RawPin) (name : List ℕ) → DrivesNets places ps → drives_of (in_table (map row_of_pin ps) name) ≡ true → are_nets (bits_at places ps name) ≡ true
own_nets places [] name all d = absurd cc
own_nets places (p ∷ ps) name all d = nets_case places (bytes_eq p.name name) p (pin_named ps name) (in_table (map row_of_pin ps) name) all.0 (own_nets places ps name all.1) d

pub driven_nets : (places : List Bit) (table : List PinRow) (ps : List RawPin) (name : List ℕ) → FitsTable table ps → DrivesNets places ps → drives_of (in_table table name) ≡ true → are_nets (bits_at places ps name) ≡ true
driven_nets places table ps name fits all d = own_nets places ps name all (ap (λ (t : List PinRow). drives_of (in_table t name)) fits ∙ d)

pub all_counted : (bs : List Bit) → are_nets bs ≡ true → length (nets_of bs) ≡ length bs
all_counted [] e = refl
all_counted (bits.Zero ∷ bs) e = absurd cc
all_counted (bits.One ∷ bs) e = absurd cc
all_counted (bits.Net n ∷ bs) e = ap (λ k. suc k) (all_counted bs e)

pub nets_width : (places : List Bit) (table : List PinRow) (ps : List RawPin) (name : List ℕ) → FitsTable table ps → DrivesNets places ps → drives_of (in_table table name) ≡ true → length (nets_of (bits_at places ps name)) ≡ width_of (in_table table name)
nets_width places table ps name fits all d = all_counted (bits_at places ps name) (driven_nets places table ps name fits all d) ∙ bits_width places table ps name fits
