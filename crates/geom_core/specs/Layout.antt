-- Where the bits of a row of a memory lie in the RAM cells of a row. A row has 2 to the power of the fold words, and its bits
-- are those of word 0 from bit 0, then those of word 1, and so on. A column has units of as many bits as one write enable of
-- the RAM serves. Bits are placed one after the other, and a new unit begins where the enables of the memory's writes change
-- or the unit is full. (Folds and this layout are this project's own.)
use Rattle.std.specs.Prelude.{ℕ, zero, suc, ◌+◌, ◌-◌, ◌*◌, ◌/◌, ◌%◌, ◌^◌, ◌≤◌, Bool, cond, not, ◌&&◌, ◌||◌, nat_eq, nat_lt, List, length, slice_index_or}
use Rattle.std.specs.List.{list_all, range_with_len}
use Rattle.std.specs.Int.{div_ceil}
use Rattle.lib_core.specs.declared.library.Variant.{Variant}
use Rattle.lib_core.specs.Rams.{width_at, lane_width}
use Rattle.net_core.specs.declared.bits.Bit.{Bit}
use Rattle.net_core.specs.declared.bits.Bit.TheVariants as bits
use Rattle.net_core.specs.declared.mems.Mem.{Mem}
use Rattle.net_core.specs.declared.mems.WrPort.{WrPort}
use Rattle.net_core.specs.Ports.{same_bit}
use Rattle.net_core.specs.Valid.{Each}
use Rattle.geom_core.specs.declared.spreads.UnitPlace.{UnitPlace}
use Rattle.geom_core.specs.declared.spreads.BitPlace.{BitPlace}
use Rattle.geom_core.specs.declared.spreads.Spread.{Spread}

-- how many bits a row has
abbrev pub row_bits : Mem → ℕ → ℕ
row_bits m fold = m.width * 2 ^ fold

-- A write of 2^wide words covers a part of one row, or so many rows. This is the number of the group of its words, counted in
-- the row from 0, that has a place of the row; it is 0 where the group covers the row.
abbrev pub group_of : Mem → WrPort → ℕ → ℕ
group_of m w place = place / m.width / 2 ^ w.wide

abbrev pub rows_covered : ℕ → WrPort → ℕ
rows_covered fold w = 2 ^ (w.wide - fold)

-- the enable of a write for a place of the row, in one of the rows that the write covers
abbrev pub enable_in : Mem → ℕ → WrPort → ℕ → ℕ → Bit
enable_in m fold w row place = slice_index_or w.en ((row * 2 ^ fold + place / m.width) % 2 ^ w.wide * m.width + place % m.width) bits.Zero

-- A write enables two places of a row alike: they are in one group of its words, and have the same enable in each row that it
-- covers.
abbrev pub same_enable : Mem → ℕ → WrPort → ℕ → ℕ → ℕ → Bool
same_enable m fold w p q row = same_bit (enable_in m fold w row p) (enable_in m fold w row q)

abbrev pub same_in_write : Mem → ℕ → ℕ → ℕ → WrPort → Bool
same_in_write m fold p q w = nat_eq (group_of m w p) (group_of m w q) && list_all (same_enable m fold w p q) (range_with_len 0 (rows_covered fold w))

-- every write enables the two places alike
abbrev pub same_enables : Mem → ℕ → ℕ → ℕ → Bool
same_enables m fold p q = list_all (same_in_write m fold p q) m.writes

-- the bits of a unit at a level
abbrev pub unit_bits : Variant → ℕ → ℕ
unit_bits x level = lane_width x.byte (width_at x.widths level)

-- the units of a column at a level
abbrev pub column_units : Variant → ℕ → ℕ
column_units x level = width_at x.widths level / unit_bits x level

-- The first place is the first of unit 0. The next one begins a unit where the enables change or the unit is full.
abbrev pub next_place : ℕ → Bool → UnitPlace → UnitPlace
next_place unit changes here = cond (changes || not (nat_lt (here.at + 1) unit)) (record { unit = here.unit + 1; at = 0 }) (record { unit = here.unit; at = here.at + 1 })

abbrev pub placed : (ℕ → Bool) → ℕ → ℕ → UnitPlace
placed changes unit zero = record { unit = 0; at = 0 }
placed changes unit (suc place) = next_place unit (changes place) (placed changes unit place)

-- the enables change after a place
abbrev pub changes_after : Mem → ℕ → ℕ → Bool
changes_after m fold place = not (same_enables m fold place (place + 1))

-- the unit of a place of a row, and the place in the unit
abbrev pub unit_place : Mem → ℕ → ℕ → ℕ → UnitPlace
unit_place m fold unit place = placed (changes_after m fold) unit place

-- how many units a row has, and how many columns hold them
abbrev pub units_of : Mem → ℕ → ℕ → ℕ
units_of m fold unit = (unit_place m fold unit (row_bits m fold - 1)).unit + 1

abbrev pub spread_of : Mem → Variant → ℕ → ℕ → Spread
spread_of m x fold level =
    record { unit = unit_bits x level; units = units_of m fold (unit_bits x level); columns = div_ceil (units_of m fold (unit_bits x level)) (column_units x level) }

-- The column and the pin of a place of the row: columns are filled unit by unit.
abbrev pub pin_of : ℕ → ℕ → UnitPlace → BitPlace
pin_of unit units here = record { column = here.unit / units; pin = here.unit % units * unit + here.at }

abbrev pub bit_place_of : Mem → Variant → ℕ → ℕ → ℕ → BitPlace
bit_place_of m x fold level place = pin_of (unit_bits x level) (column_units x level) (unit_place m fold (unit_bits x level) place)

-- The limits of a memory that its layout rests on: every memory of a valid module has them.
pub record HasRows (m : Mem) : Type 0 where
  pub some_bits : 1 ≤ m.width
  pub few_bits : m.width ≤ 65536
  pub few_words : Each m.writes (λ w. w.wide ≤ 6)

-- The limits of a variant at a level that a layout rests on: every variant that a library's text gives has them.
pub record HasUnits (x : Variant) (level : ℕ) : Type 0 where
  pub some_bits : 1 ≤ width_at x.widths level
  pub few_bits : width_at x.widths level ≤ 1024
  pub some_units : 1 ≤ unit_bits x level
