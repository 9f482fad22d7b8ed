-- The memory that a cell with all its ports holds. In every list the port of number 0 comes first, low bits first; what belongs
-- to a port of several words belongs to its first number, but for data and values, which all its numbers have.
-- (Yosys manual, memories.)
use Rattle.std.specs.Prelude.{ℕ, ◌*◌, ◌+◌, Bool, true, false, ◌&&◌, List, [], ◌∷◌, length, map, replicate, Option, Some, None, codes, nat_lt, if◌then◌else◌}
use Rattle.std.specs.List.{list_any}
use Rattle.lib_core.specs.declared.library.Tri.{Tri}
use Rattle.lib_core.specs.declared.library.Tri.TheVariants.{Any}
use Rattle.net_core.specs.declared.bits.Bit.{Bit}
use Rattle.net_core.specs.declared.bits.Bit.TheVariants.{Zero, One}
use Rattle.net_core.specs.declared.mems.Attr.{Attr}
use Rattle.net_core.specs.declared.mems.Mem.{Mem}
use Rattle.net_core.specs.declared.mems.RdPort.{RdPort}
use Rattle.net_core.specs.declared.mems.WrPort.{WrPort}
use Rattle.net_core.specs.declared.modules.MemPart.{MemPart}
use Rattle.net_core.specs.Ports.{nets_of}
use Rattle.cell_consts.specs.Consts.{fitted, flags}
use Rattle.mem_rows.specs.Rows.{bits}
use Rattle.mem_rows.specs.declared.whole.WholeRow.{WholeRow}
use Rattle.mem_collect.specs.declared.reading.ReadFlags.{ReadFlags}
use Rattle.mem_collect.specs.declared.reading.ReadPins.{ReadPins}
use Rattle.mem_collect.specs.declared.reading.ReadValues.{ReadValues}
use Rattle.mem_collect.specs.declared.reading.Reading.{Reading}
use Rattle.mem_collect.specs.declared.spans.PortSpan.{PortSpan}
use Rattle.mem_collect.specs.declared.writing.Writing.{Writing}
use Rattle.mem_collect.specs.Pieces.{address, bit_or_zero, clock_of, cut, flag_or_false, pin_bits}
use Rattle.mem_collect.specs.Spans.{spans}

-- missing flags are not set, and missing values are open
abbrev pub flags_at : List Attr → List ℕ → ℕ → List Bool
flags_at params name count = flags count (bits params name)

abbrev pub values_at : List Attr → List ℕ → ℕ → List Tri
values_at params name count = fitted count (bits params name)

-- ---- reads

unfoldable pub read_pins : MemPart → ReadPins
read_pins part = record {
  clocks = pin_bits part.pins (codes "\\RD_CLK");
  en = pin_bits part.pins (codes "\\RD_EN");
  arst = pin_bits part.pins (codes "\\RD_ARST");
  srst = pin_bits part.pins (codes "\\RD_SRST");
  addr = pin_bits part.pins (codes "\\RD_ADDR");
  words = pin_bits part.pins (codes "\\RD_DATA");
}

unfoldable pub read_flags : WholeRow → List Attr → ReadFlags
read_flags row params = record {
  clocked = flags_at params (codes "\\RD_CLK_ENABLE") row.reads;
  rising = flags_at params (codes "\\RD_CLK_POLARITY") row.reads;
  over = flags_at params (codes "\\RD_CE_OVER_SRST") row.reads;
  trans = flags_at params (codes "\\RD_TRANSPARENCY_MASK") (row.reads * row.writes);
  coll = flags_at params (codes "\\RD_COLLISION_X_MASK") (row.reads * row.writes);
}

unfoldable pub read_values : WholeRow → List Attr → ReadValues
read_values row params = record {
  arst = values_at params (codes "\\RD_ARST_VALUE") (row.reads * row.width);
  srst = values_at params (codes "\\RD_SRST_VALUE") (row.reads * row.width);
  init = values_at params (codes "\\RD_INIT_VALUE") (row.reads * row.width);
}

abbrev pub reading_of : WholeRow → MemPart → Reading
reading_of row part = record { pins = read_pins part; flags = read_flags row part.params; values = read_values row part.params }

unfoldable pub read_spans : WholeRow → MemPart → List PortSpan
read_spans row part = spans (flags_at part.params (codes "\\RD_WIDE_CONTINUATION") row.reads)

unfoldable pub write_spans : WholeRow → MemPart → List PortSpan
write_spans row part = spans (flags_at part.params (codes "\\WR_WIDE_CONTINUATION") row.writes)

-- the bit of a mask for a port and a write
abbrev pub mask_bit : WholeRow → List Bool → PortSpan → PortSpan → Bool
mask_bit row mask s w = flag_or_false mask (s.first * row.writes + w.first)

abbrev pub masks : WholeRow → List PortSpan → List Bool → PortSpan → List Bool
masks row writes mask s = map (λ w. mask_bit row mask s w) writes

abbrev pub no_masks : List PortSpan → List Bool
no_masks writes = replicate (length writes) false

-- the data of all words of a port
abbrev pub words_of : {X : Type 0} → WholeRow → PortSpan → List X → List X
words_of row s xs = cut (s.first * row.width) (s.words * row.width) xs

abbrev pub address_of : WholeRow → PortSpan → List Bit → List Bit
address_of row s bits = address s.wide (cut (s.first * row.abits) row.abits bits)

unfoldable pub clocked_read : WholeRow → Reading → List PortSpan → PortSpan → RdPort
clocked_read row r writes s = record {
  wide = s.wide;
  clock = Some (clock_of (bit_or_zero r.pins.clocks s.first) (flag_or_false r.flags.rising s.first));
  en = bit_or_zero r.pins.en s.first;
  addr = address_of row s r.pins.addr;
  out = nets_of (words_of row s r.pins.words);
  arst = bit_or_zero r.pins.arst s.first;
  srst = bit_or_zero r.pins.srst s.first;
  arst_value = words_of row s r.values.arst;
  srst_value = words_of row s r.values.srst;
  init_value = words_of row s r.values.init;
  ce_over_srst = flag_or_false r.flags.over s.first;
  trans = masks row writes r.flags.trans s;
  coll = masks row writes r.flags.coll s;
}

abbrev pub open_value : WholeRow → PortSpan → List Tri
open_value row s = replicate (s.words * row.width) Any

-- a read without a clock has no enable, no resets and no start value
unfoldable pub direct_read : WholeRow → Reading → List PortSpan → PortSpan → RdPort
direct_read row r writes s = record {
  wide = s.wide;
  clock = None;
  en = One;
  addr = address_of row s r.pins.addr;
  out = nets_of (words_of row s r.pins.words);
  arst = Zero;
  srst = Zero;
  arst_value = open_value row s;
  srst_value = open_value row s;
  init_value = open_value row s;
  ce_over_srst = false;
  trans = no_masks writes;
  coll = no_masks writes;
}

abbrev pub read_of : WholeRow → Reading → List PortSpan → PortSpan → RdPort
read_of row r writes s = if flag_or_false r.flags.clocked s.first then clocked_read row r writes s else direct_read row r writes s

-- ---- writes

unfoldable pub writing_of : WholeRow → MemPart → Writing
writing_of row part = record {
  clocks = pin_bits part.pins (codes "\\WR_CLK");
  en = pin_bits part.pins (codes "\\WR_EN");
  addr = pin_bits part.pins (codes "\\WR_ADDR");
  words = pin_bits part.pins (codes "\\WR_DATA");
  rising = flags_at part.params (codes "\\WR_CLK_POLARITY") row.writes;
  prio = flags_at part.params (codes "\\WR_PRIORITY_MASK") (row.writes * row.writes);
}

-- over an earlier write alone
abbrev pub wins : WholeRow → List Bool → PortSpan → PortSpan → Bool
wins row prio s w = nat_lt w.first s.first && mask_bit row prio s w

abbrev pub priorities : WholeRow → List Bool → List PortSpan → PortSpan → List Bool
priorities row prio writes s = map (λ w. wins row prio s w) writes

unfoldable pub write_of : WholeRow → Writing → List PortSpan → PortSpan → WrPort
write_of row w writes s = record {
  wide = s.wide;
  clock = clock_of (bit_or_zero w.clocks s.first) (flag_or_false w.rising s.first);
  en = words_of row s w.en;
  addr = address_of row s w.addr;
  value = words_of row s w.words;
  prio = priorities row w.prio writes s;
}

-- ---- the memory

abbrev pub reads_of : WholeRow → MemPart → List RdPort
reads_of row part = map (λ s. read_of row (reading_of row part) (write_spans row part) s) (read_spans row part)

abbrev pub writes_of : WholeRow → MemPart → List WrPort
writes_of row part = map (λ s. write_of row (writing_of row part) (write_spans row part) s) (write_spans row part)

abbrev pub init_of : WholeRow → MemPart → List Tri
init_of row part = values_at part.params (codes "\\INIT") (row.size * row.width)

unfoldable pub mem_of : WholeRow → MemPart → Mem
mem_of row part = record {
  name = row.name;
  attrs = part.attrs;
  width = row.width;
  size = row.size;
  offset = row.offset;
  abits = row.abits;
  init = init_of row part;
  reads = reads_of row part;
  writes = writes_of row part;
  origin = row.name;
  place = record { copy = 0; row = 0; column = 0 };
}

-- ---- masks

abbrev pub both : WholeRow → Reading → PortSpan → PortSpan → Bool
both row r s w = mask_bit row r.flags.trans s w && mask_bit row r.flags.coll s w

abbrev pub some_both : WholeRow → Reading → List PortSpan → PortSpan → Bool
some_both row r writes s = list_any (λ w. both row r s w) writes

-- a read is both transparent and open to collisions for one write
abbrev pub overlap : WholeRow → MemPart → Bool
overlap row part = list_any (λ s. some_both row (reading_of row part) (write_spans row part) s) (read_spans row part)
