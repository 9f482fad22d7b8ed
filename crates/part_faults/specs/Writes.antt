-- The write ports of a module that are cells of their own, and the numbers of those of each declared memory.
use Rattle.std.specs.Prelude.{◌≡◌, ℕ, List, [], ◌∷◌, ◌++◌, length, Option, Some, None, codes}
use Rattle.net_core.specs.declared.mems.Attr.{Attr}
use Rattle.net_core.specs.declared.modules.MemPart.{MemPart}
use Rattle.net_core.specs.declared.modules.Module.{Module}
use Rattle.mem_rows.specs.Rows.{number}
use Rattle.mem_rows.specs.declared.row.MemRow.{MemRow}
use Rattle.mem_rows.specs.declared.row.MemRow.TheVariants as row
use Rattle.part_faults.specs.declared.ids.WriteId.{WriteId}
use Rattle.part_faults.specs.Ids.{ids_at, own_id}
use Rattle.part_faults.specs.Parts.{memory_named, row_of}

abbrev pub port_id : List Attr → ℕ
port_id params = number params (codes "\\PORTID")

abbrev pub write_in : Option ℕ → ℕ → Option WriteId
write_in None id = None
write_in (Some k) id = Some (record { memory = k; id = id })

-- the write port that a cell of this row is, by the places of the memories' names
abbrev pub write_in_row : (List ℕ → Option ℕ) → List Attr → MemRow → Option WriteId
write_in_row memory params (row.Whole r) = None
write_in_row memory params (row.Read r) = None
write_in_row memory params (row.OldRead r) = None
write_in_row memory params (row.Write r) = write_in (memory r.name) (port_id params)
write_in_row memory params (row.Init r) = None

abbrev pub write_of_row : (List ℕ → Option ℕ) → List Attr → Option MemRow → Option WriteId
write_of_row memory params None = None
write_of_row memory params (Some r) = write_in_row memory params r

abbrev pub write_of : (List ℕ → Option ℕ) → MemPart → Option WriteId
write_of memory p = write_of_row memory p.params (row_of p)

-- the numbers of the write ports of the memory at a place, in file order
unfoldable pub ids_of : (List ℕ → Option ℕ) → List MemPart → ℕ → List ℕ
ids_of memory [] k = []
ids_of memory (p ∷ ps) k = own_id (write_of memory p) k ++ ids_of memory ps k

-- the table tells the numbers of the write ports among these cells, of each memory that the module declares
pub record TellsIds (m : Module) (parts : List MemPart) (rows : List (List ℕ)) : Type 0 where
  pub count : length rows ≡ length m.declared
  pub ids : (k : ℕ) → ids_at rows k ≡ ids_of (memory_named m) parts k
