-- The laws of RAM cells: one that is made of a gathered cell has nets of the module alone, and its clocks come from roots; and
-- what stands at driven pins of names that are apart is driven.
use Rattle.std.specs.Prelude.{◌≡◌, ◌<◌, ◌≤◌, ℕ, true, List, [], ◌∷◌, ◌++◌, drop, length, nat_eq, Option, Some, None}
use Rattle.std.specs.List.{count_by, flat_map}
use Rattle.lib_core.specs.declared.library.Group.{Group}
use Rattle.lib_core.specs.declared.library.Variant.{Variant}
use Rattle.rtlil_text.specs.Grammar.{All, AreDistinct}
use Rattle.net_core.specs.declared.bits.Bit.{Bit}
use Rattle.net_core.specs.declared.rams.RamCell.{RamCell}
use Rattle.net_core.specs.Pins.{ram_bits}
use Rattle.net_core.specs.Ports.{ram_clocks}
use Rattle.cell_rows.specs.declared.pin.PinRow.{PinRow}
use Rattle.net_wires.specs.declared.clock.ClockRoot.{ClockRoot}
use Rattle.net_wires.specs.Nets.{InOrder}
use Rattle.ram_rows.specs.declared.pins.SlotPin.TheVariants as pin
use Rattle.ram_rows.specs.declared.slots.SlotRow.{SlotRow}
use Rattle.ram_rows.specs.RamNames.{slot_name}
use Rattle.ram_rows.specs.RamPins.{suffix}
use Rattle.raw_cells.specs.declared.raw.RamUse.{RamUse}
use Rattle.raw_cells.specs.declared.raw.RawPin.{RawPin}
use Rattle.raw_cells.specs.Bits.{bits_of, sources_at}
use Rattle.raw_cells.specs.RamCells.{ram_of}
use Rattle.net_gather.specs.FilePins.{in_table}
use Rattle.net_gather.specs.Laws.{FitsTable}
use Rattle.net_fits.specs.Clocks.{ComesFrom}
use Rattle.net_fits.specs.Rams.{driving_sources, is_this, IsBelow, outs_of}

pub record HasParts (places : List Bit) (count : ℕ) (roots : List ClockRoot) (r : RamCell) : Type 0 where
  pub bits : All (IsBelow count) (ram_bits r)
  pub outs : All (λ n. n < count) (outs_of r)
  pub clocks : All (ComesFrom places roots) (ram_clocks r)

-- The law: so it is of any variant.
abbrev pub RamHasParts : Type 0
RamHasParts = (places : List Bit) (count : ℕ) (roots : List ClockRoot) (name : List ℕ) (u : RamUse) (v : Variant) (pins : List RawPin) → InOrder 0 places count → HasParts places count roots (ram_of places roots name u v pins)

-- the cell drives the pin, or has none of this name
abbrev pub DrivenOrAbsent : Option PinRow → Type 0
DrivenOrAbsent None = Unit {0}
DrivenOrAbsent (Some r) = r.drives ≡ true

-- The law: at driven pins of names that are apart no net stands more often than the cell drives it.
abbrev pub NamedDrivenOnce : Type 0
NamedDrivenOnce = (places : List Bit) (table : List PinRow) (pins : List RawPin) (names : List (List ℕ)) → FitsTable table pins → AreDistinct names → All (λ n. DrivenOrAbsent (in_table table n)) names
    → (net : ℕ) → count_by (is_this net) (bits_of places (flat_map (sources_at pins) names)) ≤ count_by (is_this net) (bits_of places (driving_sources pins))

-- the names of the pins at which the slots of a cell show what they read
abbrev pub names_read : List (List ℕ) → List SlotRow → List (List ℕ)
names_read [] rows = []
names_read (n ∷ ns) [] = []
names_read (n ∷ ns) (r ∷ rs) = slot_name n (suffix pin.RdData) ∷ names_read ns rs

abbrev pub groups_read : List Group → List SlotRow → List (List ℕ)
groups_read [] rows = []
groups_read (g ∷ gs) rows = names_read g.names rows ++ groups_read gs (drop (length g.names) rows)

-- The law: where these are apart, and driven where they are pins, the slots show no net more often than the cell drives it.
abbrev pub RamShowsOnce : Type 0
RamShowsOnce = (places : List Bit) (roots : List ClockRoot) (name : List ℕ) (u : RamUse) (v : Variant) (table : List PinRow) (pins : List RawPin) → FitsTable table pins
    → AreDistinct (groups_read v.groups u.row.slots) → All (λ n. DrivenOrAbsent (in_table table n)) (groups_read v.groups u.row.slots)
    → (net : ℕ) → count_by (nat_eq net) (outs_of (ram_of places roots name u v pins)) ≤ count_by (is_this net) (bits_of places (driving_sources pins))
