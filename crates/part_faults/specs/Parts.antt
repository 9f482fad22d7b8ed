-- What the cells say that make up memories: the row of each by its type, and which declared memory it belongs to.
use Rattle.std.specs.Prelude.{◌≡◌, ℕ, List, Option, Some, None, map}
use Rattle.net_core.specs.declared.mems.Attr.{Attr}
use Rattle.net_core.specs.declared.mems.Mem.{Mem}
use Rattle.net_core.specs.declared.modules.MemPart.{MemPart}
use Rattle.net_core.specs.declared.modules.Module.{Module}
use Rattle.cell_rows.specs.Kinds.{found, mem_named, place_of}
use Rattle.cell_rows.specs.declared.kinds.MemKind.{MemKind}
use Rattle.mem_rows.specs.ByType.{mem_row}
use Rattle.mem_rows.specs.declared.row.MemRow.{MemRow}
use Rattle.mem_rows.specs.declared.row.MemRow.TheVariants as row

abbrev pub row_of_kind : Option MemKind → List Attr → Option MemRow
row_of_kind None params = None
row_of_kind (Some k) params = mem_row k params

-- none where the type is that of no memory cell, and where the parameters are no row of it
unfoldable pub row_of : MemPart → Option MemRow
row_of p = row_of_kind (mem_named p.kind) p.params

abbrev pub names_of : List Mem → List (List ℕ)
names_of declared = map (λ (x : Mem). x.name) declared

-- the place of the memory of a name among those that the module declares, the first where the name stands twice
unfoldable pub memory_named : Module → List ℕ → Option ℕ
memory_named m name = place_of (names_of m.declared) name

-- these are the places of the memories that the module declares
abbrev pub AreMemories : Module → List (List ℕ × ℕ) → Type 0
AreMemories m places = (name : List ℕ) → found places name ≡ memory_named m name

-- The place of the memory that a cell names, by the places of names. A cell that holds a whole memory names none.
abbrev pub home_of : (List ℕ → Option ℕ) → MemRow → Option ℕ
home_of memory (row.Whole r) = None
home_of memory (row.Read r) = memory r.name
home_of memory (row.OldRead r) = memory r.name
home_of memory (row.Write r) = memory r.name
home_of memory (row.Init r) = memory r.name
