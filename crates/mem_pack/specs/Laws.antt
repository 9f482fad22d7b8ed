-- Laws of packing: what a reader makes of the cell that holds a memory.
use Rattle.std.specs.Prelude.{◌≡◌, ◌*◌, ◌≤◌, List, length, Some, None, Result, Ok, Err}
use Rattle.net_core.specs.declared.cells.Pin.{Pin}
use Rattle.net_core.specs.declared.mems.Mem.{Mem}
use Rattle.net_core.specs.Valid.{Each, MemFits}
use Rattle.cell_rows.specs.declared.kinds.MemKind.TheVariants as kind
use Rattle.cell_rows.specs.declared.pin.PinRow.{PinRow}
use Rattle.mem_rows.specs.ByType.{mem_row}
use Rattle.mem_rows.specs.Limits.{whole_limit}
use Rattle.mem_rows.specs.Pins.{mem_pins}
use Rattle.mem_rows.specs.declared.row.MemRow.TheVariants as rows
use Rattle.mem_rows.specs.declared.whole.WholeRow.{WholeRow}
use Rattle.mem_collect.specs.declared.fault.CollectFault.{CollectFault}
use Rattle.mem_collect.specs.Answers.{IsMemoryFault, IsWhole, Unpacks, UnpacksPart}
use Rattle.mem_collect.specs.Pieces.{pin_named}
use Rattle.mem_pack.specs.Numbers.{numbers}
use Rattle.mem_pack.specs.Lists.{read_wides, write_wides}
use Rattle.mem_pack.specs.Packed.{packed}

-- a whole memory: it was not cut from another
pub record IsPackable (m : Mem) : Type 0 where
  pub fits : MemFits m
  pub origin : m.origin ≡ m.name
  pub place : m.place ≡ record { copy = 0; row = 0; column = 0 }

-- a memory of at most 64 port numbers on each side
pub record IsSmall (m : Mem) : Type 0 where
  pub reads : numbers (read_wides m.reads) ≤ 64
  pub writes : numbers (write_wides m.writes) ≤ 64

-- what the parameters of the cell say
abbrev pub packed_row : Mem → WholeRow
packed_row m = record {
  name = m.name;
  size = m.size;
  offset = m.offset;
  abits = m.abits;
  width = m.width;
  reads = numbers (read_wides m.reads);
  writes = numbers (write_wides m.writes);
}

-- ---- the row

abbrev pub PackedHasRow : Type 0
PackedHasRow = (m : Mem) → IsPackable m → mem_row kind.Packed (packed m).params ≡ Some (rows.Whole (packed_row m))

-- a reader takes words of fewer bits, and fewer bits in all, than a memory may have
pub record IsReadable (m : Mem) : Type 0 where
  pub width : m.width ≤ 1024
  pub bits : m.size * m.width ≤ 4194304

abbrev pub PackedIsWithin : Type 0
PackedIsWithin = (m : Mem) → IsPackable m → IsReadable m → whole_limit (packed_row m) ≡ None

-- ---- the pins

-- the cell has this pin of the table
pub record HasPin (pins : List Pin) (r : PinRow) : Type 0 where
  pub pin : Pin
  pub named : pin_named pins r.name ≡ Some pin
  pub width : length pin.bits ≡ r.width
  pub drives : pin.drives ≡ r.drives

abbrev pub PackedHasPins : Type 0
PackedHasPins = (m : Mem) → IsPackable m → Each (mem_pins (rows.Whole (packed_row m))) (HasPin (packed m).pins)

-- ---- the memory

-- Unpacking gives the memory of which the cell was made: no field of it is another.
abbrev pub UnpackedIsThere : Type 0
UnpackedIsThere = (m : Mem) → IsPackable m → Unpacks (packed_row m) (packed m) (Ok m)

-- the memory itself, where memory suffices
abbrev pub GivesBack : Mem → Result Mem CollectFault → Type 0
GivesBack m (Ok found) = found ≡ m
GivesBack m (Err f) = IsMemoryFault f

-- What unpacks cells gives back each memory that was packed.
abbrev pub UnpackOfPack : Type 0
UnpackOfPack = (m : Mem) → IsPackable m → IsReadable m → IsWhole (packed m) × ((result : Result Mem CollectFault) → UnpacksPart (packed m) result → GivesBack m result)
