-- What is counted from cell to cell: places, bits of pins, and the ports of the memories of the module.
use Rattle.std.specs.Prelude.{ℕ, ◌+◌, ◌-◌, ◌/◌, Bool, true, false, ◌&&◌, List, [], ◌∷◌, ◌++◌, Option, Some, None, codes, nat_eq, slice_get, slice_set, if◌then◌else◌}
use Rattle.std.specs.List.{sum_by}
use Rattle.std.specs.Str.{bytes_eq}
use Rattle.rtlil_text.specs.declared.doc.Item.{Item}
use Rattle.rtlil_text.specs.declared.doc.Item.TheVariants as item
use Rattle.mem_rows.specs.declared.row.MemRow.{MemRow}
use Rattle.mem_rows.specs.declared.row.MemRow.TheVariants as cell
use Rattle.mem_rows.specs.declared.separate.PortRow.{PortRow}
use Rattle.mem_rows.specs.Limits.{whole_limit}
use Rattle.net_wires.specs.declared.breach.Breach.{Breach}
use Rattle.net_gather.specs.declared.counts.Counts.{Counts}
use Rattle.net_gather.specs.declared.counts.Tally.{Tally}
use Rattle.net_gather.specs.declared.open_pin.OpenPin.{OpenPin}
use Rattle.raw_cells.specs.declared.row.CellRow.{CellRow}
use Rattle.raw_cells.specs.declared.row.CellRow.TheVariants as row
use Rattle.net_gather.specs.Faults.{limit_breaches}
use Rattle.net_gather.specs.OpenPins.{bits_size, open_count}
use Rattle.net_gather.specs.Sizes.{most_nets, seen_breaches}

abbrev pub most_pin_bits : ℕ
most_pin_bits = 16777216

abbrev pub most_ports : ℕ
most_ports = 64

abbrev pub most_abits : ℕ
most_abits = 32

-- ---- bits of pins

-- the address of a port that is a cell of its own may still be filled up to 32 bits
abbrev pub has_long_address : CellRow → Bool
has_long_address (row.Comb r) = false
has_long_address (row.Reg r) = false
has_long_address (row.Memory (cell.Whole r)) = false
has_long_address (row.Memory (cell.Read r)) = true
has_long_address (row.Memory (cell.OldRead r)) = true
has_long_address (row.Memory (cell.Write r)) = true
has_long_address (row.Memory (cell.Init r)) = false
has_long_address (row.Ram u) = false
has_long_address row.StrangeRam = false
has_long_address row.Kept = false

-- as how many bits a pin counts
abbrev pub pin_size : Bool → OpenPin → ℕ
pin_size long p = if long && bytes_eq p.name (codes "\\ADDR") then 32 else bits_size p.bits

abbrev pub pins_size : Bool → List OpenPin → ℕ
pins_size long pins = sum_by (pin_size long) pins

-- ---- ports of memories

abbrev pub tally_of : Item → List Tally
tally_of (item.Wire w) = []
tally_of (item.Param p) = []
tally_of (item.Mem m) = record { width = m.width; ports = 0 } ∷ []
tally_of (item.Cell c) = []
tally_of (item.Connect l r) = []

-- as how many ports of single words of a memory a port of this width counts
abbrev pub words : ℕ → ℕ → ℕ
words port width = if nat_eq width 0 then 0 else (port + (width - 1)) / width

abbrev pub with_port : Tally → ℕ → Tally
with_port t port = record { width = t.width; ports = t.ports + words port t.width }

-- the ports of the memory that has this tally
abbrev pub tally_breaches : Option Tally → ℕ → List Breach
tally_breaches None port = []
tally_breaches (Some t) port = limit_breaches most_ports (t.ports + words port t.width)

abbrev pub with_tally : List Tally → ℕ → Option Tally → ℕ → List Tally
with_tally ts k None port = ts
with_tally ts k (Some t) port = slice_set ts k (with_port t port)

-- a port of the memory that stands at this place, if it is declared
abbrev pub port_breaches : List Tally → Option ℕ → ℕ → List Breach
port_breaches ts None port = []
port_breaches ts (Some k) port = tally_breaches (slice_get ts k) port

abbrev pub with_one_port : List Tally → Option ℕ → ℕ → List Tally
with_one_port ts None port = ts
with_one_port ts (Some k) port = with_tally ts k (slice_get ts k) port

-- ---- limits of a memory cell, where its memory has these ports so far

-- a port that is a cell of its own; memories have places by their names
abbrev pub port_limits : (List ℕ → Option ℕ) → List Tally → PortRow → List Breach
port_limits memory ts r = limit_breaches most_abits r.abits ++ port_breaches ts (memory r.name) r.width

abbrev pub memory_limits : (List ℕ → Option ℕ) → List Tally → List Tally → MemRow → List Breach
memory_limits memory reads writes (cell.Whole r) = seen_breaches (whole_limit r)
memory_limits memory reads writes (cell.Read r) = port_limits memory reads r
memory_limits memory reads writes (cell.OldRead r) = port_limits memory reads r
memory_limits memory reads writes (cell.Write r) = port_limits memory writes r
memory_limits memory reads writes (cell.Init r) = limit_breaches most_abits r.abits

abbrev pub row_limits : (List ℕ → Option ℕ) → List Tally → List Tally → CellRow → List Breach
row_limits memory reads writes (row.Comb r) = []
row_limits memory reads writes (row.Reg r) = []
row_limits memory reads writes (row.Memory r) = memory_limits memory reads writes r
row_limits memory reads writes (row.Ram u) = []
row_limits memory reads writes row.StrangeRam = []
row_limits memory reads writes row.Kept = []

-- a port that reads, or one that writes, counts at its memory
abbrev pub reads_behind_memory : (List ℕ → Option ℕ) → List Tally → MemRow → List Tally
reads_behind_memory memory ts (cell.Whole r) = ts
reads_behind_memory memory ts (cell.Read r) = with_one_port ts (memory r.name) r.width
reads_behind_memory memory ts (cell.OldRead r) = with_one_port ts (memory r.name) r.width
reads_behind_memory memory ts (cell.Write r) = ts
reads_behind_memory memory ts (cell.Init r) = ts

abbrev pub writes_behind_memory : (List ℕ → Option ℕ) → List Tally → MemRow → List Tally
writes_behind_memory memory ts (cell.Whole r) = ts
writes_behind_memory memory ts (cell.Read r) = ts
writes_behind_memory memory ts (cell.OldRead r) = ts
writes_behind_memory memory ts (cell.Write r) = with_one_port ts (memory r.name) r.width
writes_behind_memory memory ts (cell.Init r) = ts

abbrev pub reads_behind : (List ℕ → Option ℕ) → List Tally → CellRow → List Tally
reads_behind memory ts (row.Comb r) = ts
reads_behind memory ts (row.Reg r) = ts
reads_behind memory ts (row.Memory r) = reads_behind_memory memory ts r
reads_behind memory ts (row.Ram u) = ts
reads_behind memory ts row.StrangeRam = ts
reads_behind memory ts row.Kept = ts

abbrev pub writes_behind : (List ℕ → Option ℕ) → List Tally → CellRow → List Tally
writes_behind memory ts (row.Comb r) = ts
writes_behind memory ts (row.Reg r) = ts
writes_behind memory ts (row.Memory r) = writes_behind_memory memory ts r
writes_behind memory ts (row.Ram u) = ts
writes_behind memory ts row.StrangeRam = ts
writes_behind memory ts row.Kept = ts

-- nets, bits of pins, and then what the row of the cell may have
abbrev pub count_breaches : (List ℕ → Option ℕ) → Counts → CellRow → List OpenPin → List Breach
count_breaches memory st r pins =
    limit_breaches most_nets (st.places + open_count pins)
    ++ (limit_breaches most_pin_bits (st.pin_bits + pins_size (has_long_address r) pins) ++ row_limits memory st.reads st.writes r)

abbrev pub counts_behind : (List ℕ → Option ℕ) → Counts → CellRow → List OpenPin → Counts
counts_behind memory st r pins = record {
  places = st.places + open_count pins;
  pin_bits = st.pin_bits + pins_size (has_long_address r) pins;
  reads = reads_behind memory st.reads r;
  writes = writes_behind memory st.writes r;
}
