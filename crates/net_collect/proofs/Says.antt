-- A cell whose row is a whole memory is of that type.
use Rattle.std.proofs.Common.{◌≡◌, List, Option, Some, None}
use Rattle.net_core.specs.declared.mems.Attr.{Attr}
use Rattle.cell_rows.specs.declared.kinds.MemKind.{MemKind}
use Rattle.cell_rows.specs.declared.kinds.MemKind.TheVariants as kind
use Rattle.mem_rows.specs.ByType.{map_row, mem_row}
use Rattle.mem_rows.specs.Rows.{init_row, old_read_row, read_row, write_row}
use Rattle.mem_rows.specs.declared.row.MemRow.TheVariants as rows
use Rattle.mem_rows.specs.declared.separate.InitRow.{InitRow}
use Rattle.mem_rows.specs.declared.separate.PortRow.{PortRow}
use Rattle.mem_rows.specs.declared.whole.WholeRow.{WholeRow}
use Rattle.mem_collect.specs.Answers.{IsWhole, Says}
use Rattle.mem_collect.proofs.Whole.{whole_where_within}
use Rattle.mem_rows.specs.Limits.{whole_limit}
use Rattle.net_core.specs.declared.modules.MemPart.{MemPart}
use Rattle.cell_rows.specs.Kinds.{mem_named}
use Rattle.part_faults.specs.Parts.{row_of, row_of_kind}

no_read : (o : Option PortRow) (r : WholeRow) → map_row rows.Read o ≡ Some (rows.Whole r) → ⊥
no_read None r e = cc
no_read (Some p) r e = cc

no_old : (o : Option PortRow) (r : WholeRow) → map_row rows.OldRead o ≡ Some (rows.Whole r) → ⊥
no_old None r e = cc
no_old (Some p) r e = cc

no_write : (o : Option PortRow) (r : WholeRow) → map_row rows.Write o ≡ Some (rows.Whole r) → ⊥
no_write None r e = cc
no_write (Some p) r e = cc

no_init : (o : Option InitRow) (r : WholeRow) → map_row rows.Init o ≡ Some (rows.Whole r) → ⊥
no_init None r e = cc
no_init (Some p) r e = cc

is_whole : (k : Option MemKind) (params : List Attr) (r : WholeRow) → row_of_kind k params ≡ Some (rows.Whole r) → mem_row kind.Packed params ≡ Some (rows.Whole r)
is_whole None params r e = absurd cc
is_whole (Some kind.Packed) params r e = e
is_whole (Some kind.Read) params r e = absurd (no_read (read_row params) r e)
is_whole (Some kind.OldRead) params r e = absurd (no_old (old_read_row params) r e)
is_whole (Some kind.Write) params r e = absurd (no_write (write_row params) r e)
is_whole (Some kind.Init) params r e = absurd (no_init (init_row params) r e)

pub says_row : (p : MemPart) (r : WholeRow) → row_of p ≡ Some (rows.Whole r) → Says p r
unfolding row_of
says_row p r e = is_whole (mem_named p.kind) p.params r e

pub whole_part : (p : MemPart) (r : WholeRow) → Says p r → whole_limit r ≡ None → IsWhole p
whole_part p r says none = whole_where_within p r says none
