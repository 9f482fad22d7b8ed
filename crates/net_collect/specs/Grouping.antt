-- The memory cells of a module by the memories that they belong to: a cell that is a port or contents belongs to the first
-- memory that is declared under the name in its MEMID.
use Rattle.std.specs.Prelude.{ℕ, zero, suc, ◌+◌, Bool, false, List, [], ◌∷◌, ◌++◌, map, Option, Some, None, nat_eq, if◌then◌else◌}
use Rattle.net_core.specs.declared.mems.Mem.{Mem}
use Rattle.net_core.specs.declared.modules.MemPart.{MemPart}
use Rattle.net_core.specs.declared.modules.Module.{Module}
use Rattle.mem_rows.specs.declared.row.MemRow.{MemRow}
use Rattle.mem_rows.specs.declared.row.MemRow.TheVariants as row
use Rattle.mem_collect.specs.Unpacked.{mem_of}
use Rattle.part_faults.specs.Parts.{home_of, memory_named, row_of}
use Rattle.net_collect.specs.declared.grouping.Bucket.{Bucket}
use Rattle.net_collect.specs.declared.grouping.Groups.{Groups}
use Rattle.net_collect.specs.declared.grouping.Piece.{Piece}

abbrev pub is_at : Option ℕ → ℕ → Bool
is_at None k = false
is_at (Some n) k = nat_eq n k

abbrev pub piece : MemRow → MemPart → Piece
piece r p = record { row = r; part = p }

-- the cell, if it belongs to the memory at a place
abbrev pub piece_at : (List ℕ → Option ℕ) → ℕ → Option MemRow → MemPart → List Piece
piece_at place k None p = []
piece_at place k (Some r) p = if is_at (home_of place r) k then piece r p ∷ [] else []

-- the cells that belong to the memory at a place, in file order
unfoldable pub pieces_of : (List ℕ → Option ℕ) → ℕ → List MemPart → List Piece
pieces_of place k [] = []
pieces_of place k (p ∷ ps) = piece_at place k (row_of p) p ++ pieces_of place k ps

-- each memory that is declared, with its cells
unfoldable pub buckets_from : (List ℕ → Option ℕ) → ℕ → List Mem → List MemPart → List Bucket
buckets_from place k [] parts = []
buckets_from place k (d ∷ ds) parts = record { mem = d; pieces = pieces_of place k parts } ∷ buckets_from place (k + 1) ds parts

-- the memory of a cell that holds a whole one
abbrev pub whole_in : Option MemRow → MemPart → List Mem
whole_in None p = []
whole_in (Some (row.Whole r)) p = mem_of r p ∷ []
whole_in (Some (row.Read r)) p = []
whole_in (Some (row.OldRead r)) p = []
whole_in (Some (row.Write r)) p = []
whole_in (Some (row.Init r)) p = []

unfoldable pub wholes_of : List MemPart → List Mem
wholes_of [] = []
wholes_of (p ∷ ps) = whole_in (row_of p) p ++ wholes_of ps

abbrev pub groups_by : (List ℕ → Option ℕ) → List Mem → List MemPart → Groups
groups_by place declared parts = record { buckets = buckets_from place 0 declared parts; wholes = wholes_of parts }

abbrev pub groups_of : Module → Groups
groups_of m = groups_by (memory_named m) m.declared m.parts

-- ---- cell by cell

-- the memory at a place gets one more cell
abbrev pub put_at : ℕ → Piece → List Bucket → List Bucket
put_at k p [] = []
put_at zero p (b ∷ bs) = record { mem = b.mem; pieces = b.pieces ++ p ∷ [] } ∷ bs
put_at (suc k) p (b ∷ bs) = b ∷ put_at k p bs

abbrev pub put_found : Option ℕ → Piece → List Bucket → List Bucket
put_found None p bs = bs
put_found (Some k) p bs = put_at k p bs

abbrev pub put_row : (List ℕ → Option ℕ) → Option MemRow → MemPart → List Bucket → List Bucket
put_row place None p bs = bs
put_row place (Some r) p bs = put_found (home_of place r) (piece r p) bs

unfoldable pub with_part : (List ℕ → Option ℕ) → Groups → MemPart → Groups
with_part place g p = record { buckets = put_row place (row_of p) p g.buckets; wholes = g.wholes ++ whole_in (row_of p) p }

unfoldable pub with_parts : (List ℕ → Option ℕ) → Groups → List MemPart → Groups
with_parts place g [] = g
with_parts place g (p ∷ ps) = with_parts place (with_part place g p) ps

-- memories before any cell is found
abbrev pub empty_bucket : Mem → Bucket
empty_bucket d = record { mem = d; pieces = [] }

abbrev pub empty_buckets : List Mem → List Bucket
empty_buckets ds = map empty_bucket ds
