-- The RAM cell that a cell of a RAM is, once each place of a module has its bit and each clock its root: a slot for each name of
-- each group, with the bits at the pins of that name. What a group has no pin for is 0, and never ticks.
use Rattle.std.specs.Prelude.{ℕ, Bool, List, [], ◌∷◌, ◌++◌, length, drop, min}
use Rattle.lib_core.specs.declared.library.Group.{Group}
use Rattle.lib_core.specs.declared.library.Variant.{Variant}
use Rattle.lib_core.specs.Rams.{reads_now}
use Rattle.net_core.specs.declared.bits.Bit.{Bit}
use Rattle.net_core.specs.declared.bits.Clock.{Clock}
use Rattle.net_core.specs.declared.rams.RamCell.{RamCell}
use Rattle.net_core.specs.declared.rams.SlotUse.{SlotUse}
use Rattle.net_core.specs.Ports.{nets_of}
use Rattle.net_wires.specs.declared.clock.ClockRoot.{ClockRoot}
use Rattle.ram_rows.specs.declared.pins.SlotPin.{SlotPin}
use Rattle.ram_rows.specs.declared.pins.SlotPin.TheVariants as pin
use Rattle.ram_rows.specs.declared.slots.SlotRow.{SlotRow}
use Rattle.ram_rows.specs.RamNames.{slot_name}
use Rattle.ram_rows.specs.RamPins.{suffix}
use Rattle.raw_cells.specs.declared.ram_cell.Controls.{Controls}
use Rattle.raw_cells.specs.declared.ram_cell.Words.{Words}
use Rattle.raw_cells.specs.declared.raw.RamUse.{RamUse}
use Rattle.raw_cells.specs.declared.raw.RawPin.{RawPin}
use Rattle.raw_cells.specs.Bits.{bit_at, bits_at}
use Rattle.raw_cells.specs.Clocks.{clock_at}

-- a place in a list as RAM cells have it, in 32 bits; the last of these stands for any behind it
abbrev pub narrow : ℕ → ℕ
narrow n = min n 4294967295

abbrev pub slot_clock : List Bit → List ClockRoot → List RawPin → List ℕ → Bool → Clock
slot_clock places roots pins slot rising = clock_at places roots pins (slot_name slot (suffix pin.Clk)) rising

abbrev pub slot_bit : List Bit → List RawPin → List ℕ → SlotPin → Bit
slot_bit places pins slot p = bit_at places pins (slot_name slot (suffix p))

abbrev pub slot_bits : List Bit → List RawPin → List ℕ → SlotPin → List Bit
slot_bits places pins slot p = bits_at places pins (slot_name slot (suffix p))

-- the pins of one bit
abbrev pub controls_of : List Bit → List ClockRoot → List RawPin → List ℕ → Bool → Controls
controls_of places roots pins slot rising = record {
  clock = slot_clock places roots pins slot rising;
  clken = slot_bit places pins slot pin.ClkEn;
  rden = slot_bit places pins slot pin.RdEn;
  srst = slot_bit places pins slot pin.RdSrst;
  arst = slot_bit places pins slot pin.RdArst;
}

-- the others
abbrev pub words_of : List Bit → List RawPin → List ℕ → Words
words_of places pins slot = record {
  addr = slot_bits places pins slot pin.Addr;
  out = nets_of (slot_bits places pins slot pin.RdData);
  value = slot_bits places pins slot pin.WrData;
  wren = slot_bits places pins slot pin.WrEn;
  wrbe = slot_bits places pins slot pin.WrBe;
}

abbrev pub slot_with : Group → SlotRow → Controls → Words → SlotUse
slot_with g row controls words = record {
  used = row.used;
  reads_now = reads_now g.kind;
  level = narrow row.level;
  clock = controls.clock;
  clken = controls.clken;
  addr = words.addr;
  rden = controls.rden;
  srst = controls.srst;
  arst = controls.arst;
  out = words.out;
  value = words.value;
  wren = words.wren;
  wrbe = words.wrbe;
  srst_value = row.values.srst;
  arst_value = row.values.arst;
  init_value = row.values.start;
}

-- the slot of this name
unfoldable pub slot_of : List Bit → List ClockRoot → List RawPin → Group → List ℕ → SlotRow → SlotUse
slot_of places roots pins g slot row = slot_with g row (controls_of places roots pins slot row.rising) (words_of places pins slot)

-- those of a group, and those of groups
abbrev pub names_slots : List Bit → List ClockRoot → List RawPin → Group → List (List ℕ) → List SlotRow → List SlotUse
names_slots places roots pins g [] rows = []
names_slots places roots pins g (n ∷ ns) [] = []
names_slots places roots pins g (n ∷ ns) (r ∷ rs) = slot_of places roots pins g n r ∷ names_slots places roots pins g ns rs

abbrev pub groups_slots : List Bit → List ClockRoot → List RawPin → List Group → List SlotRow → List SlotUse
groups_slots places roots pins [] rows = []
groups_slots places roots pins (g ∷ gs) rows = names_slots places roots pins g g.names rows ++ groups_slots places roots pins gs (drop (length g.names) rows)

unfoldable pub ram_of : List Bit → List ClockRoot → List ℕ → RamUse → Variant → List RawPin → RamCell
ram_of places roots name u v pins = record {
  name = name;
  ram = u.ram;
  variant = narrow u.variant;
  slots = groups_slots places roots pins v.groups u.row.slots;
  init = u.row.init;
}
