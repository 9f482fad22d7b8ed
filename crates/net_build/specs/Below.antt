-- Tests of numbers of nets and of memory cells.
use Rattle.std.specs.Prelude.{ℕ, Bool, true, ◌&&◌, not, List, nat_lt, Option, Some, None}
use Rattle.std.specs.List.{list_all}
use Rattle.std.specs.Option.{is_some}
use Rattle.net_core.specs.declared.bits.Bit.{Bit}
use Rattle.net_core.specs.declared.bits.Bit.TheVariants.{Zero, One, Net}
use Rattle.net_loops.specs.declared.nodes.NetNode.{NetNode}
use Rattle.mem_rows.specs.declared.row.MemRow.{MemRow}
use Rattle.mem_rows.specs.declared.row.MemRow.TheVariants as row
use Rattle.mem_rows.specs.Limits.{whole_limit}
use Rattle.raw_cells.specs.declared.raw.CellShape.{CellShape}
use Rattle.raw_cells.specs.declared.raw.CellShape.TheVariants as shape
use Rattle.raw_cells.specs.declared.raw.RawCell.{RawCell}

abbrev pub is_below : ℕ → Bit → Bool
is_below nets Zero = true
is_below nets One = true
is_below nets (Net n) = nat_lt n nets

abbrev pub all_below : ℕ → List Bit → Bool
all_below nets bits = list_all (is_below nets) bits

abbrev pub nets_below : ℕ → List ℕ → Bool
nets_below nets list = list_all (λ n. nat_lt n nets) list

abbrev pub is_node_below : ℕ → NetNode → Bool
is_node_below nets p = nets_below nets p.drives && all_below nets p.needs

abbrev pub nodes_below : ℕ → List NetNode → Bool
nodes_below nets nodes = list_all (is_node_below nets) nodes

abbrev pub is_row_within : MemRow → Bool
is_row_within (row.Whole r) = not (is_some (whole_limit r))
is_row_within (row.Read r) = true
is_row_within (row.OldRead r) = true
is_row_within (row.Write r) = true
is_row_within (row.Init r) = true

abbrev pub is_shape_within : CellShape → Bool
is_shape_within (shape.Comb r) = true
is_shape_within (shape.Reg r) = true
is_shape_within (shape.Carried k) = true
is_shape_within (shape.Memory k r) = is_row_within r
is_shape_within (shape.Ram u) = true

abbrev pub shapes_within : List RawCell → Bool
shapes_within cells = list_all (λ (c : RawCell). is_shape_within c.shape) cells
