-- The cells of one declared memory: those that read it, those that write it, and those that say its contents.
use Rattle.std.specs.Prelude.{Bool, false, List, [], ◌∷◌, ◌++◌, nat_le, if◌then◌else◌}
use Rattle.net_core.specs.declared.modules.MemPart.{MemPart}
use Rattle.mem_rows.specs.declared.row.MemRow.{MemRow}
use Rattle.mem_rows.specs.declared.row.MemRow.TheVariants as row
use Rattle.mem_rows.specs.declared.separate.InitRow.{InitRow}
use Rattle.mem_rows.specs.declared.separate.PortRow.{PortRow}
use Rattle.part_faults.specs.Writes.{port_id}
use Rattle.net_collect.specs.declared.grouping.Piece.{Piece}
use Rattle.net_collect.specs.declared.sides.InitCell.{InitCell}
use Rattle.net_collect.specs.declared.sides.ReadCell.{ReadCell}
use Rattle.net_collect.specs.declared.sides.Sides.{Sides}
use Rattle.net_collect.specs.declared.sides.WriteCell.{WriteCell}

abbrev pub read_cell : Bool → PortRow → MemPart → ReadCell
read_cell clocked r p = record { clocked = clocked; row = r; part = p }

abbrev pub write_cell : PortRow → MemPart → WriteCell
write_cell r p = record { id = port_id p.params; row = r; part = p }

abbrev pub init_cell : InitRow → MemPart → InitCell
init_cell r p = record { row = r; part = p }

-- what there is of a memory, with one more cell at the end
abbrev pub with_read : Sides → ReadCell → Sides
with_read s c = record { reads = s.reads ++ c ∷ []; writes = s.writes; inits = s.inits }

abbrev pub with_write : Sides → WriteCell → Sides
with_write s c = record { reads = s.reads; writes = s.writes ++ c ∷ []; inits = s.inits }

abbrev pub with_init : Sides → InitCell → Sides
with_init s c = record { reads = s.reads; writes = s.writes; inits = s.inits ++ c ∷ [] }

-- `$memrd` reads without a clock
abbrev pub with_row : Sides → MemRow → MemPart → Sides
with_row s (row.Whole r) p = s
with_row s (row.Read r) p = with_read s (read_cell r.clocked r p)
with_row s (row.OldRead r) p = with_read s (read_cell false r p)
with_row s (row.Write r) p = with_write s (write_cell r p)
with_row s (row.Init r) p = with_init s (init_cell r p)

abbrev pub no_sides : Sides
no_sides = record { reads = []; writes = []; inits = [] }

unfoldable pub sides_from : Sides → List Piece → Sides
sides_from s [] = s
sides_from s (p ∷ ps) = sides_from (with_row s p.row p.part) ps

abbrev pub sides_of : List Piece → Sides
sides_of pieces = sides_from no_sides pieces

-- the write stands before the first whose PORTID is not less than its own
abbrev pub insert_write : WriteCell → List WriteCell → List WriteCell
insert_write w [] = w ∷ []
insert_write w (x ∷ xs) = if nat_le w.id x.id then w ∷ x ∷ xs else x ∷ insert_write w xs

-- writes by rising PORTID; of equal ones the earlier cell comes first
abbrev pub by_id : List WriteCell → List WriteCell
by_id [] = []
by_id (w ∷ ws) = insert_write w (by_id ws)
