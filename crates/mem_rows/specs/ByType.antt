-- What the parameters of a memory cell say, by its type.
use Rattle.std.specs.Prelude.{Bool, true, List, Option, Some, None}
use Rattle.net_core.specs.declared.mems.Attr.{Attr}
use Rattle.cell_rows.specs.declared.kinds.MemKind.{MemKind}
use Rattle.cell_rows.specs.declared.kinds.MemKind.TheVariants as kind
use Rattle.mem_rows.specs.declared.row.MemRow.{MemRow}
use Rattle.mem_rows.specs.declared.row.MemRow.TheVariants as row
use Rattle.mem_rows.specs.Rows.{init_row, old_read_row, read_row, takes_no_clock, whole_row, write_row}

abbrev pub map_row : {A : Type 0} → (A → MemRow) → Option A → Option MemRow
map_row f None = None
map_row f (Some a) = Some (f a)

abbrev pub mem_row : MemKind → List Attr → Option MemRow
mem_row kind.Packed params = map_row row.Whole (whole_row params)
mem_row kind.Read params = map_row row.Read (read_row params)
mem_row kind.OldRead params = map_row row.OldRead (old_read_row params)
mem_row kind.Write params = map_row row.Write (write_row params)
mem_row kind.Init params = map_row row.Init (init_row params)

-- a `$memrd` with a clock or with transparency is of no known type
abbrev pub is_known : MemKind → List Attr → Bool
is_known kind.Packed params = true
is_known kind.Read params = true
is_known kind.OldRead params = takes_no_clock params
is_known kind.Write params = true
is_known kind.Init params = true
