-- Laws of what is gathered.
use Rattle.std.specs.Prelude.{◌≡◌, ◌≤◌, ◌<◌, ℕ, zero, suc, ◌+◌, true, List, [], ◌∷◌, map, length, get_or, replicate, Option, Some, nat_lt, if◌then◌else◌}
use Rattle.std.specs.List.{flat_map}
use Rattle.lib_core.specs.declared.library.Library.{Library}
use Rattle.lib_core.specs.declared.library.Variant.{Variant}
use Rattle.net_core.specs.declared.bits.Bit.{Bit}
use Rattle.net_core.specs.declared.bits.Bit.TheVariants as bits
use Rattle.net_core.specs.Shape.{fits_library}
use Rattle.rtlil_text.specs.declared.doc.Item.{Item}
use Rattle.rtlil_text.specs.Grammar.{All}
use Rattle.cell_rows.specs.declared.pin.PinRow.{PinRow}
use Rattle.cell_rows.specs.Pins.{comb_pins, reg_pins}
use Rattle.mem_rows.specs.Pins.{mem_pins}
use Rattle.net_wires.specs.declared.source.Source.{Source}
use Rattle.net_wires.specs.declared.source.Source.TheVariants as source
use Rattle.net_wires.specs.declared.clock.ClockRoot.{ClockRoot}
use Rattle.net_wires.specs.declared.clock.ClockRoot.TheVariants as leads
use Rattle.net_wires.specs.declared.clock.Drive.{Drive}
use Rattle.net_wires.specs.declared.clock.Drive.TheVariants as drive
use Rattle.net_wires.specs.declared.link.Link.TheVariants as links
use Rattle.net_wires.specs.Clocks.{driven_by, IsConstant, tied_digits}
use Rattle.net_wires.specs.Links.{links_of, PairsWithin, SourcesWithin}
use Rattle.net_wires.specs.Ties.{Leads}
use Rattle.net_wires.specs.Spans.{Entry, There}
use Rattle.net_gather.specs.declared.counts.Counts.{Counts}
use Rattle.raw_cells.specs.declared.raw.CellShape.{CellShape}
use Rattle.raw_cells.specs.declared.raw.CellShape.TheVariants as shape
use Rattle.raw_cells.specs.declared.raw.RamUse.{RamUse}
use Rattle.raw_cells.specs.declared.raw.RawCell.{RawCell}
use Rattle.raw_cells.specs.declared.raw.RawPin.{RawPin}
use Rattle.net_gather.specs.declared.faces.Faces.{Faces}
use Rattle.net_gather.specs.declared.gathering.Gathered.{Gathered}
use Rattle.net_gather.specs.Cells.{Context}
use Rattle.raw_cells.specs.Clocks.{place_bit}
use Rattle.raw_cells.specs.RamCells.{ram_of}
use Rattle.net_gather.specs.FilePins.{in_table}
use Rattle.net_gather.specs.Gather.{cell_faults, context, counts_of, faults_of, gathered, pairs_of, raw_cells}
use Rattle.raw_cells.specs.Rows.{variant_of, variant_pins}

-- no bit is without a place
abbrev pub AreSettled : List Source → Type 0
AreSettled [] = Unit {0}
AreSettled (source.Loose ∷ ss) = ⊥
AreSettled (source.Zero ∷ ss) = AreSettled ss
AreSettled (source.One ∷ ss) = AreSettled ss
AreSettled (source.At p ∷ ss) = AreSettled ss

abbrev pub PinsSettled : List RawPin → Type 0
PinsSettled ps = All (λ (p : RawPin). AreSettled p.bits) ps

abbrev pub CellsSettled : List RawCell → Type 0
CellsSettled cs = All (λ (c : RawCell). PinsSettled c.pins) cs

-- The law: each open bit of a pin has a place.
abbrev pub BitsSettled : Type 0
BitsSettled = (x : Context) (st : Counts) (is : List Item) → CellsSettled (raw_cells x st is)

-- the pins name places below n alone
abbrev pub CellsWithin : ℕ → List RawCell → Type 0
CellsWithin n cs = All (λ (c : RawCell). All (λ (p : RawPin). SourcesWithin n p.bits) c.pins) cs

-- The law: pins name places of the module alone, where the wires that stand before do.
abbrev pub PlacesWithin : Type 0
PlacesWithin = (x : Context) (st : Counts) (is : List Item) → There st.places x.names → CellsWithin (counts_of x st is).places (raw_cells x st is)

-- the places from n on among these bits
abbrev pub places_from : ℕ → List Source → List ℕ
places_from n [] = []
places_from n (source.Zero ∷ ss) = places_from n ss
places_from n (source.One ∷ ss) = places_from n ss
places_from n (source.Loose ∷ ss) = places_from n ss
places_from n (source.At p ∷ ss) = if nat_lt p n then places_from n ss else p ∷ places_from n ss

abbrev pub pins_bits : List RawPin → List Source
pins_bits ps = flat_map (λ (p : RawPin). p.bits) ps

abbrev pub cells_bits : List RawCell → List Source
cells_bits cs = flat_map (λ (c : RawCell). pins_bits c.pins) cs

-- n, and the numbers behind it, so many together
abbrev pub numbers_from : ℕ → ℕ → List ℕ
numbers_from n zero = []
numbers_from n (suc k) = n ∷ numbers_from (n + 1) k

-- The law: each place behind those of the wires stands in one pin, once, and they stand in the order of the pins.
abbrev pub PlacesInOrder : Type 0
PlacesInOrder = (x : Context) (st : Counts) (is : List Item) → There st.places x.names
    → (k : ℕ) × ((counts_of x st is).places ≡ st.places + k) × (places_from st.places (cells_bits (raw_cells x st is)) ≡ numbers_from st.places k)

-- a pin as a table has it
abbrev pub row_of_pin : RawPin → PinRow
row_of_pin p = record { name = p.name; width = length p.bits; drives = p.drives; clock = p.clock }

-- the pins are those of the table, with their widths
abbrev pub FitsTable : List PinRow → List RawPin → Type 0
FitsTable table ps = map row_of_pin ps ≡ table

-- each pin of a table is found there by its name
abbrev pub IsFoundIn : List PinRow → List PinRow → Type 0
IsFoundIn table rs = All (λ (r : PinRow). in_table table r.name ≡ Some r) rs

-- the pins of the variant that a RAM cell is of
abbrev pub ram_table : Library → RamUse → List PinRow
ram_table lib u = variant_pins (variant_of lib u) u.row.slots

-- A cell that is not kept as it is has the pins of its table. For a RAM cell this takes that no two of these have one name.
abbrev pub FitsShape : Library → CellShape → List RawPin → Type 0
FitsShape lib (shape.Comb r) ps = FitsTable (comb_pins r) ps
FitsShape lib (shape.Reg r) ps = FitsTable (reg_pins r) ps
FitsShape lib (shape.Carried k) ps = Unit {0}
FitsShape lib (shape.Memory k r) ps = FitsTable (mem_pins r) ps
FitsShape lib (shape.Ram u) ps = IsFoundIn (ram_table lib u) (ram_table lib u) → FitsTable (ram_table lib u) ps

abbrev pub CellsFit : Library → List RawCell → Type 0
CellsFit lib cs = All (λ (c : RawCell). FitsShape lib c.shape c.pins) cs

-- The law: where nothing is wrong with the cells, they have the pins of their tables.
abbrev pub TablesFit : Type 0
TablesFit = (x : Context) (k : ℕ) (st : Counts) (is : List Item) → cell_faults x k st is ≡ [] → CellsFit x.library (raw_cells x st is)

-- The law: where nothing is wrong there are no more places than a module may have nets.
abbrev pub PlacesFew : Type 0
PlacesFew = (x : Context) (is : List Item) → faults_of x is ≡ [] → (gathered x is).places ≤ 4194304

-- The law: and no pin has more bits than the pins of a module may have together.
abbrev pub PinsShort : Type 0
PinsShort = (x : Context) (k : ℕ) (st : Counts) (is : List Item) → cell_faults x k st is ≡ [] → All (λ (c : RawCell). All (λ (p : RawPin). length p.bits ≤ 16777216) c.pins) (raw_cells x st is)

-- The law: connects join bits of wires and constants.
abbrev pub PairsAreWithin : Type 0
PairsAreWithin = (n : ℕ) (names : List Entry) (is : List Item) → There n names → PairsWithin n (pairs_of names is)

-- ---- the shape of RAM cells

abbrev pub IsNet : Bit → Type 0
IsNet b = (k : ℕ) × (b ≡ bits.Net k)

-- the places from n on among these bits never tick
abbrev pub NeverFrom : ℕ → List ClockRoot → List Source → Type 0
NeverFrom n roots [] = Unit {0}
NeverFrom n roots (source.Zero ∷ ss) = NeverFrom n roots ss
NeverFrom n roots (source.One ∷ ss) = NeverFrom n roots ss
NeverFrom n roots (source.Loose ∷ ss) = NeverFrom n roots ss
NeverFrom n roots (source.At p ∷ ss) = (n ≤ p → get_or roots p leads.Unknown ≡ leads.Never) × NeverFrom n roots ss

-- what connects alone drive: these places by a digit without a value
abbrev pub digit_drives : ℕ → List ℕ → List Drive
digit_drives n digits = driven_by drive.Digit (replicate n drive.Open) digits

-- The bits and the clocks that are found for the places of a module agree with its connects.
pub record Agrees (m : Gathered) (places : List Bit) (roots : List ClockRoot) : Type 0 where
  -- a bit of a wire is the constant that connects lead to, and else a net
  pub zero : (p : ℕ) → p < m.wire_places → Leads (links_of m.wire_places m.pairs) (links.To p) links.Zero → place_bit places p ≡ bits.Zero
  pub one : (p : ℕ) → p < m.wire_places → Leads (links_of m.wire_places m.pairs) (links.To p) links.One → place_bit places p ≡ bits.One
  pub net : (p : ℕ) → p < m.wire_places → (Leads (links_of m.wire_places m.pairs) (links.To p) links.Zero → ⊥)
      → (Leads (links_of m.wire_places m.pairs) (links.To p) links.One → ⊥) → IsNet (place_bit places p)
  -- a bit that a pin leaves out, or a digit without a value at a pin, is a net
  pub unwired : (p : ℕ) → m.wire_places ≤ p → p < m.places → IsNet (place_bit places p)
  -- no clock ticks from which connects alone lead to a digit of a constant, or which is such a digit
  pub never : (p : ℕ) → p < m.wire_places → IsConstant (links_of m.wire_places m.pairs) (digit_drives m.wire_places (tied_digits m.pairs)) p → get_or roots p leads.Unknown ≡ leads.Never
  pub digits : All (λ (c : RawCell). All (λ (p : RawPin). p.clock ≡ true → p.given ≡ true → NeverFrom m.wire_places roots p.bits) c.pins) m.cells

-- a cell of a RAM is a RAM cell of the shape that its variant gives
abbrev pub ShapeFits : Library → List Bit → List ClockRoot → List ℕ → CellShape → List RawPin → Type 0
ShapeFits lib places roots name (shape.Comb r) ps = Unit {0}
ShapeFits lib places roots name (shape.Reg r) ps = Unit {0}
ShapeFits lib places roots name (shape.Carried k) ps = Unit {0}
ShapeFits lib places roots name (shape.Memory k r) ps = Unit {0}
ShapeFits lib places roots name (shape.Ram u) ps = (v : Variant) × (variant_of lib u ≡ Some v) × (fits_library lib (ram_of places roots name u v ps) ≡ true)

abbrev pub CellsShaped : Library → List Bit → List ClockRoot → List RawCell → Type 0
CellsShaped lib places roots cs = All (λ (c : RawCell). ShapeFits lib places roots c.name c.shape c.pins) cs

-- The law: where nothing is wrong, each cell of a RAM has the shape of its variant, whichever bits and clocks are found that agree
-- with the connects.
abbrev pub RamsFit : Type 0
RamsFit = (lib : Library) (ram : List ℕ → Option ℕ) (f : Faces) (is : List Item) (places : List Bit) (roots : List ClockRoot)
    → faults_of (context lib ram f is) is ≡ [] → Agrees (gathered (context lib ram f is) is) places roots → CellsShaped lib places roots (gathered (context lib ram f is) is).cells
