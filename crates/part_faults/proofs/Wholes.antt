-- Cells that hold a whole memory, and what is answered of their masks.
use Rattle.std.proofs.Common.{◌≡◌, Option, Some, None}
use Rattle.std.specs.Prelude.{List}
use Rattle.net_core.specs.declared.mems.Attr.{Attr}
use Rattle.net_core.specs.declared.modules.MemPart.{MemPart}
use Rattle.cell_rows.specs.declared.kinds.MemKind.{MemKind}
use Rattle.cell_rows.specs.declared.kinds.MemKind.TheVariants as kind
use Rattle.mem_rows.specs.ByType.{map_row, mem_row}
use Rattle.mem_rows.specs.declared.row.MemRow.TheVariants as row
use Rattle.mem_rows.specs.declared.separate.InitRow.{InitRow}
use Rattle.mem_rows.specs.declared.separate.PortRow.{PortRow}
use Rattle.mem_rows.specs.declared.whole.WholeRow.{WholeRow}
use Rattle.mem_collect.specs.Answers.{Says}
use Rattle.part_faults.specs.Parts.{row_of, row_of_kind}

read_no_whole : (o : Option PortRow) (r : WholeRow) → map_row row.Read o ≡ Some (row.Whole r) → ⊥
read_no_whole None r h = cc
read_no_whole (Some a) r h = cc

old_no_whole : (o : Option PortRow) (r : WholeRow) → map_row row.OldRead o ≡ Some (row.Whole r) → ⊥
old_no_whole None r h = cc
old_no_whole (Some a) r h = cc

write_no_whole : (o : Option PortRow) (r : WholeRow) → map_row row.Write o ≡ Some (row.Whole r) → ⊥
write_no_whole None r h = cc
write_no_whole (Some a) r h = cc

init_no_whole : (o : Option InitRow) (r : WholeRow) → map_row row.Init o ≡ Some (row.Whole r) → ⊥
init_no_whole None r h = cc
init_no_whole (Some a) r h = cc

kind_says : (o : Option MemKind) (params : List Attr) (r : WholeRow) → row_of_kind o params ≡ Some (row.Whole r) → mem_row kind.Packed params ≡ Some (row.Whole r)
kind_says None params r h = absurd cc
kind_says (Some kind.Packed) params r h = h
kind_says (Some kind.Read) params r h = absurd (read_no_whole _ r h)
kind_says (Some kind.OldRead) params r h = absurd (old_no_whole _ r h)
kind_says (Some kind.Write) params r h = absurd (write_no_whole _ r h)
kind_says (Some kind.Init) params r h = absurd (init_no_whole _ r h)

-- a cell whose row is one of a whole memory says this memory
pub says_row : (p : MemPart) (r : WholeRow) → row_of p ≡ Some (row.Whole r) → Says p r
unfolding row_of
says_row p r h = kind_says _ p.params r h
