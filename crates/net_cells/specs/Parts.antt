-- Memory cells over the bits of places: their clock pins have the nets of roots, and inverters are taken into the polarity.
use Rattle.std.specs.Prelude.{ℕ, Bool, List, [], ◌∷◌, map, codes, get_or, false, if◌then◌else◌}
use Rattle.std.specs.Str.{bytes_eq}
use Rattle.lib_core.specs.declared.library.Tri.{Tri}
use Rattle.net_core.specs.declared.bits.Bit.{Bit}
use Rattle.net_core.specs.declared.cells.Pin.{Pin}
use Rattle.net_core.specs.declared.mems.Attr.{Attr}
use Rattle.net_core.specs.declared.modules.MemPart.{MemPart}
use Rattle.net_core.specs.Logic.{xor}
use Rattle.net_core.specs.Values.{tri_of}
use Rattle.cell_consts.specs.Consts.{attr_bits, bits_attr, flag_attr, flags}
use Rattle.mem_rows.specs.declared.row.MemRow.{MemRow}
use Rattle.mem_rows.specs.declared.row.MemRow.TheVariants as row
use Rattle.net_wires.specs.declared.clock.ClockRoot.{ClockRoot}
use Rattle.net_wires.specs.declared.source.Source.{Source}
use Rattle.raw_cells.specs.declared.raw.Kept.{Kept}
use Rattle.raw_cells.specs.declared.raw.RawPin.{RawPin}
use Rattle.raw_cells.specs.Bits.{bits_of, sources_at}
use Rattle.net_cells.specs.Clocks.{clock_bit, flips}

abbrev pub tri_of_edge : Bool → Tri
tri_of_edge b = tri_of b

-- the edge of each port, the other one where its clock comes through an inverter
unfoldable pub turned : List Bool → List Bool → List Tri
turned [] fs = []
turned (b ∷ bs) [] = tri_of b ∷ turned bs []
turned (b ∷ bs) (f ∷ fs) = tri_of (xor b f) ∷ turned bs fs

-- the parameter of a name has the edges of so many ports
abbrev pub turned_attr : List ℕ → ℕ → List Bool → Attr → Attr
turned_attr name count fs a = if bytes_eq a.name name then bits_attr name (turned (flags count (attr_bits a)) fs) else a

abbrev pub turned_params : List ℕ → ℕ → List Bool → List Attr → List Attr
turned_params name count fs params = map (λ a. turned_attr name count fs a) params

-- the edge of a port that is a cell of its own
abbrev pub edge_attr : List ℕ → Bool → Attr → Attr
edge_attr name rising a = if bytes_eq a.name name then flag_attr name rising else a

abbrev pub edge_params : List ℕ → Bool → List Attr → List Attr
edge_params name rising params = map (λ a. edge_attr name rising a) params

abbrev pub first_flip : List Bool → Bool
first_flip fs = get_or fs 0 false

abbrev pub flips_at : List ClockRoot → List RawPin → List ℕ → List Bool
flips_at roots pins name = flips roots (sources_at pins name)

abbrev pub port_params : List ClockRoot → List RawPin → Bool → List Attr → List Attr
port_params roots pins rising params = edge_params (codes "\\CLK_POLARITY") (xor rising (first_flip (flips_at roots pins (codes "\\CLK")))) params

unfoldable pub whole_params : List ClockRoot → List RawPin → ℕ → ℕ → List Attr → List Attr
whole_params roots pins reads writes params =
    turned_params (codes "\\WR_CLK_POLARITY") writes (flips_at roots pins (codes "\\WR_CLK"))
    (turned_params (codes "\\RD_CLK_POLARITY") reads (flips_at roots pins (codes "\\RD_CLK")) params)

abbrev pub part_params : List ClockRoot → List RawPin → MemRow → List Attr → List Attr
part_params roots pins (row.Whole r) params = whole_params roots pins r.reads r.writes params
part_params roots pins (row.Read r) params = port_params roots pins r.rising params
part_params roots pins (row.OldRead r) params = params
part_params roots pins (row.Write r) params = port_params roots pins r.rising params
part_params roots pins (row.Init r) params = params

abbrev pub clock_bits : List Bit → List ClockRoot → List Source → List Bit
clock_bits places roots sources = map (λ s. clock_bit places roots s) sources

abbrev pub part_bits : List Bit → List ClockRoot → RawPin → List Bit
part_bits places roots p = if p.clock then clock_bits places roots p.bits else bits_of places p.bits

abbrev pub part_pin : List Bit → List ClockRoot → RawPin → Pin
part_pin places roots p = record { name = p.name; drives = p.drives; bits = part_bits places roots p }

abbrev pub part_pins : List Bit → List ClockRoot → List RawPin → List Pin
part_pins places roots pins = map (part_pin places roots) pins

unfoldable pub part_of : List Bit → List ClockRoot → List ℕ → Kept → MemRow → List RawPin → MemPart
part_of places roots name kept r pins = record {
  name = name;
  kind = kept.kind;
  attrs = kept.attrs;
  params = part_params roots pins r kept.params;
  pins = part_pins places roots pins;
}
