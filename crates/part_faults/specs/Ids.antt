-- Numbers of write ports, by the places of their memories among those that a module declares.
use Rattle.std.specs.Prelude.{◌≡◌, ◌<◌, ℕ, List, [], ◌∷◌, ◌++◌, Option, Some, None, nat_eq, slice_get, unwrap_or, if◌then◌else◌}
use Rattle.part_faults.specs.declared.ids.WriteId.{WriteId}

-- the number of a write port of the memory at a place
abbrev pub own_id : Option WriteId → ℕ → List ℕ
own_id None k = []
own_id (Some w) k = if nat_eq w.memory k then w.id ∷ [] else []

-- the numbers that a table has for the memory at a place
abbrev pub ids_at : List (List ℕ) → ℕ → List ℕ
ids_at rows k = unwrap_or (slice_get rows k) []

-- the numbers for a memory, none where there is no memory
abbrev pub ids_in : (ℕ → List ℕ) → Option ℕ → List ℕ
ids_in ids None = []
ids_in ids (Some k) = ids k

-- the write port is of one of so many memories
abbrev pub IsWithin : ℕ → Option WriteId → Type 0
IsWithin count write = (w : WriteId) → write ≡ Some w → w.memory < count

-- the table has the number of the write port behind those that it had
abbrev pub AddsId : List (List ℕ) → Option WriteId → List (List ℕ) → Type 0
AddsId old write new = (k : ℕ) → ids_at new k ≡ ids_at old k ++ own_id write k
