-- The nodes of cells that make up memories: each read port of such a cell is a node, which stands for the read port of the
-- memory that is gathered of it.
use Rattle.std.specs.Prelude.{ℕ, zero, suc, ◌*◌, ◌/◌, Bool, List, [], ◌∷◌, map, Option, Some, None, codes, nat_eq, slice_get, if◌then◌else◌}
use Rattle.cell_rows.specs.Kinds.{found}
use Rattle.net_core.specs.declared.bits.Bit.{Bit}
use Rattle.net_core.specs.declared.modules.MemPart.{MemPart}
use Rattle.net_core.specs.Nodes.{Node, read_node}
use Rattle.net_core.specs.Ports.{nets_of}
use Rattle.mem_rows.specs.declared.row.MemRow.{MemRow}
use Rattle.mem_rows.specs.declared.row.MemRow.TheVariants as row
use Rattle.mem_rows.specs.declared.separate.PortRow.{PortRow}
use Rattle.mem_rows.specs.declared.whole.WholeRow.{WholeRow}
use Rattle.net_module.specs.declared.part_nodes.Memories.{Memories as Code}
use Rattle.mem_rows.specs.Limits.{IsWithin}
use Rattle.mem_collect.specs.Pieces.{address, pin_bits}
use Rattle.mem_collect.specs.Spans.{wide_of}
use Rattle.mem_collect.specs.Unpacked.{reads_of}

-- the memories that a module declares: their places by name, and the bits of their words
pub record Memories : Type 0 where
  pub place : List ℕ → Option ℕ
  pub widths : List ℕ

-- the memories that the code hands on
abbrev pub memories : Code → Memories
memories m = record { place = λ n. found m.places n; widths = m.widths.items }

-- the wide number of a port over words of this width
abbrev pub wide_over : ℕ → ℕ → ℕ
wide_over zero port = 0
wide_over (suc n) port = if nat_eq (suc n * (port / suc n)) port then wide_of (port / suc n) else 0

abbrev pub wide_at : Option ℕ → ℕ → ℕ
wide_at None port = 0
wide_at (Some word) port = wide_over word port

abbrev pub width_in : List ℕ → Option ℕ → Option ℕ
width_in widths None = None
width_in widths (Some k) = slice_get widths k

-- the wide number of a port of the memory of a name; 0 where no such memory is declared
abbrev pub wide_in : Memories → List ℕ → ℕ → ℕ
wide_in m name port = wide_at (width_in m.widths (m.place name)) port

-- a clocked port depends on its asynchronous reset, and one without a clock on its address, whose low bits count as 0 where
-- it has several words
abbrev pub port_needs : Bool → ℕ → MemPart → List Bit
port_needs clocked wide p = if clocked then pin_bits p.pins (codes "\\ARST") else address wide (pin_bits p.pins (codes "\\ADDR"))

abbrev pub nets_at : MemPart → List ℕ → List ℕ
nets_at p name = nets_of (pin_bits p.pins name)

abbrev pub port_node : Bool → ℕ → MemPart → Node
port_node clocked wide p = record { drives = nets_at p (codes "\\DATA"); needs = port_needs clocked wide p }

abbrev pub port_nodes : Memories → PortRow → MemPart → List Node
port_nodes m r p = port_node r.clocked (wide_in m r.name r.width) p ∷ []

abbrev pub whole_nodes : WholeRow → MemPart → List Node
whole_nodes r p = map read_node (reads_of r p)

abbrev pub part_nodes : Memories → MemRow → MemPart → List Node
part_nodes m (row.Whole r) p = whole_nodes r p
part_nodes m (row.Read r) p = port_nodes m r p
part_nodes m (row.OldRead r) p = port_nodes m r p
part_nodes m (row.Write r) p = []
part_nodes m (row.Init r) p = []

-- a memory cell within the limits
abbrev pub IsWithinLimits : MemRow → Type 0
IsWithinLimits (row.Whole r) = IsWithin r
IsWithinLimits (row.Read r) = Unit {0}
IsWithinLimits (row.OldRead r) = Unit {0}
IsWithinLimits (row.Write r) = Unit {0}
IsWithinLimits (row.Init r) = Unit {0}
