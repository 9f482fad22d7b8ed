-- Which bits of clock pins are looked at, what clocks lead through, and the breach where a clock leads nowhere.
use Rattle.std.specs.Prelude.{ℕ, ◌+◌, Bool, true, false, not, ◌&&◌, List, [], ◌∷◌, ◌++◌, Option, Some, None, codes, slice_get, if◌then◌else◌}
use Rattle.std.specs.List.{find, flat_map, list_any}
use Rattle.std.specs.Str.{bytes_eq}
use Rattle.lib_core.specs.declared.library.Tri.{Tri}
use Rattle.rtlil_text.specs.declared.doc.Item.{Item}
use Rattle.net_core.specs.declared.cells.CombKind.{CombKind}
use Rattle.net_core.specs.declared.cells.CombKind.TheVariants as comb
use Rattle.net_core.specs.declared.mems.Attr.{Attr}
use Rattle.cell_rows.specs.declared.comb.CombRow.{CombRow}
use Rattle.mem_rows.specs.declared.row.MemRow.{MemRow}
use Rattle.mem_rows.specs.declared.row.MemRow.TheVariants as memory
use Rattle.mem_rows.specs.Rows.{bits}
use Rattle.net_wires.specs.declared.breach.BuildCode.TheVariants as code
use Rattle.net_wires.specs.declared.clock.ClockRoot.{ClockRoot}
use Rattle.net_wires.specs.declared.clock.ClockRoot.TheVariants as clock
use Rattle.net_wires.specs.declared.clock.Drive.{Drive}
use Rattle.net_wires.specs.declared.clock.Inverter.{Inverter}
use Rattle.net_wires.specs.declared.source.Source.{Source}
use Rattle.net_wires.specs.declared.source.Source.TheVariants as source
use Rattle.net_wires.specs.Clocks.{clock_of, drives, tied_digits}
use Rattle.net_gather.specs.declared.gathering.Gathered.{Gathered}
use Rattle.raw_cells.specs.declared.raw.CellShape.{CellShape}
use Rattle.raw_cells.specs.declared.raw.CellShape.TheVariants as shape
use Rattle.raw_cells.specs.declared.raw.Kept.{Kept}
use Rattle.raw_cells.specs.declared.raw.RawCell.{RawCell}
use Rattle.raw_cells.specs.declared.raw.RawPin.{RawPin}
use Rattle.net_gather.specs.Laws.{places_from}
use Rattle.net_gather.specs.PortClocks.{is_one_bit}
use Rattle.net_checks.specs.declared.fault.ModuleFault.{ModuleFault}
use Rattle.net_checks.specs.declared.marking.Port.TheVariants as port
use Rattle.net_checks.specs.Driven.{cell_drives}
use Rattle.net_checks.specs.Finds.{broken}
use Rattle.net_checks.specs.Marks.{port_bits}

-- ---- the bits of clock pins that are looked at

-- this port number is the first of a port, which has a clock
abbrev pub begins_clocked : List Tri → List Tri → ℕ → Bool
begins_clocked continues clocked i = not (is_one_bit (slice_get continues i)) && is_one_bit (slice_get clocked i)

-- the bits of such port numbers, which are counted from i
abbrev pub ports_clocks : List Tri → List Tri → ℕ → List Source → List Source
ports_clocks continues clocked i [] = []
ports_clocks continues clocked i (s ∷ ss) = (if begins_clocked continues clocked i then s ∷ [] else []) ++ ports_clocks continues clocked (i + 1) ss

unfoldable pub read_clocks : List Attr → List Source → List Source
read_clocks params ss = ports_clocks (bits params (codes "\\RD_WIDE_CONTINUATION")) (bits params (codes "\\RD_CLK_ENABLE")) 0 ss

unfoldable pub write_clocks : List Attr → List Source → List Source
write_clocks params ss = ports_clocks (bits params (codes "\\WR_WIDE_CONTINUATION")) (bits params (codes "\\WR_CLK_ENABLE")) 0 ss

-- a memory with all its ports has two clock pins
abbrev pub whole_clocks : List Attr → RawPin → List Source
whole_clocks params p = if bytes_eq p.name (codes "\\RD_CLK") then read_clocks params p.bits else write_clocks params p.bits

abbrev pub port_clocks : Bool → List Source → List Source
port_clocks clocked ss = if clocked then ss else []

abbrev pub memory_clocks : Kept → MemRow → RawPin → List Source
memory_clocks k (memory.Whole r) p = whole_clocks k.params p
memory_clocks k (memory.Read r) p = port_clocks r.clocked p.bits
memory_clocks k (memory.OldRead r) p = port_clocks r.clocked p.bits
memory_clocks k (memory.Write r) p = port_clocks r.clocked p.bits
memory_clocks k (memory.Init r) p = []

abbrev pub shape_clocks : CellShape → RawPin → List Source
shape_clocks (shape.Comb r) p = []
shape_clocks (shape.Reg r) p = p.bits
shape_clocks (shape.Carried k) p = []
shape_clocks (shape.Memory k r) p = memory_clocks k r p
shape_clocks (shape.Ram u) p = p.bits

abbrev pub pin_clocks : CellShape → RawPin → List Source
pin_clocks s p = if p.clock then shape_clocks s p else []

abbrev pub cell_clocks : RawCell → List Source
cell_clocks c = flat_map (pin_clocks c.shape) c.pins

-- ---- where clocks come from

abbrev pub shape_roots : CellShape → List Source → List Source
shape_roots (shape.Comb r) ss = []
shape_roots (shape.Reg r) ss = []
shape_roots (shape.Carried k) ss = ss
shape_roots (shape.Memory k r) ss = []
shape_roots (shape.Ram u) ss = []

abbrev pub cell_roots : RawCell → List Source
cell_roots c = shape_roots c.shape (cell_drives c)

-- inputs, and what cells drive that are kept as they are
abbrev pub root_bits : List Item → List RawCell → List Source
root_bits items cells = port_bits port.Input 0 items ++ flat_map cell_roots cells

-- the places among bits
abbrev pub places_in : List Source → List ℕ
places_in [] = []
places_in (source.Zero ∷ ss) = places_in ss
places_in (source.One ∷ ss) = places_in ss
places_in (source.Loose ∷ ss) = places_in ss
places_in (source.At p ∷ ss) = p ∷ places_in ss

-- ---- inverters

abbrev pub pin_named : List RawPin → List ℕ → Option RawPin
pin_named pins name = find (λ (p : RawPin). bytes_eq p.name name) pins

abbrev pub bits_of_pin : Option RawPin → List Source
bits_of_pin None = []
bits_of_pin (Some p) = p.bits

abbrev pub bits_at : List RawPin → List ℕ → List Source
bits_at pins name = bits_of_pin (pin_named pins name)

-- the last of these bits, the other one where there is none
abbrev pub last_bit : Source → List Source → Source
last_bit other [] = other
last_bit other (s ∷ ss) = last_bit s ss

-- what stands above an operand
abbrev pub bit_above : Bool → List Source → Source
bit_above signed ss = if signed then last_bit source.Zero ss else source.Zero

abbrev pub inverter : Source → Source → List Inverter
inverter from (source.At p) = record { from = from; to = p } ∷ []
inverter from s = []

-- each bit of the second list inverts that of the first, or the one above it
abbrev pub inverters_between : Source → List Source → List Source → List Inverter
inverters_between above xs [] = []
inverters_between above [] (y ∷ ys) = inverter above y ++ inverters_between above [] ys
inverters_between above (x ∷ xs) (y ∷ ys) = inverter x y ++ inverters_between above xs ys

abbrev pub is_not : CombKind → Bool
is_not comb.Not = true
is_not k = false

unfoldable pub not_inverters : Bool → List RawPin → List Inverter
not_inverters signed pins = inverters_between (bit_above signed (bits_at pins (codes "\\A"))) (bits_at pins (codes "\\A")) (bits_at pins (codes "\\Y"))

abbrev pub comb_inverters : CombRow → List RawPin → List Inverter
comb_inverters r pins = if is_not r.kind then not_inverters r.a_signed pins else []

abbrev pub shape_inverters : CellShape → List RawPin → List Inverter
shape_inverters (shape.Comb r) pins = comb_inverters r pins
shape_inverters (shape.Reg r) pins = []
shape_inverters (shape.Carried k) pins = []
shape_inverters (shape.Memory k r) pins = []
shape_inverters (shape.Ram u) pins = []

abbrev pub cell_inverters : RawCell → List Inverter
cell_inverters c = shape_inverters c.shape c.pins

-- ---- digits that are neither 0 nor 1

-- Those that the file gives to a pin that is read. They have places behind those of the wires, as bits that are left out do.
abbrev pub pin_digits : ℕ → RawPin → List ℕ
pin_digits wires p = if p.given && not p.drives then places_from wires p.bits else []

abbrev pub cell_digits : ℕ → RawCell → List ℕ
cell_digits wires c = flat_map (pin_digits wires) c.pins

-- and those that drive places through connects
abbrev pub digits : Gathered → List ℕ
digits g = tied_digits g.pairs ++ flat_map (cell_digits g.wire_places) g.cells

-- what drives each place that no connect drives
abbrev pub clock_drives : List Item → Gathered → List Drive
clock_drives items g = drives g.places (places_in (root_bits items g.cells)) (flat_map cell_inverters g.cells) (digits g)

-- ---- the breach, where places lead to these clocks

abbrev pub leads_nowhere : ClockRoot → Bool
leads_nowhere (clock.Root r flipped) = false
leads_nowhere clock.Never = false
leads_nowhere clock.Unknown = true

abbrev pub lacks_root : List ClockRoot → Source → Bool
lacks_root clocks s = leads_nowhere (clock_of clocks s)

abbrev pub clock_fault : List ClockRoot → RawCell → List ModuleFault
clock_fault clocks c = if list_any (lacks_root clocks) (cell_clocks c) then broken code.ClockRoot c.name ∷ [] else []

abbrev pub clock_faults : List ClockRoot → List RawCell → List ModuleFault
clock_faults clocks cells = flat_map (clock_fault clocks) cells
