-- The memory that is gathered of a declared one and its cells.
use Rattle.std.specs.Prelude.{◌≡◌, ℕ, List, [], ◌∷◌, map, max}
use Rattle.net_core.specs.declared.mems.Mem.{Mem}
use Rattle.net_collect.specs.declared.gathered.Parts.{Parts}
use Rattle.net_collect.specs.declared.grouping.Bucket.{Bucket}
use Rattle.net_collect.specs.declared.ports.Frame.{Frame}
use Rattle.net_collect.specs.declared.sides.ReadCell.{ReadCell}
use Rattle.net_collect.specs.declared.sides.Sides.{Sides}
use Rattle.net_collect.specs.declared.sides.WriteCell.{WriteCell}
use Rattle.net_collect.specs.Contents.{contents}
use Rattle.net_collect.specs.Ports.{reads_of, writes_from}
use Rattle.net_collect.specs.Sides.{by_id, sides_of}

-- the greatest number of address bits; 0 where there is no port
unfoldable pub read_abits : List ReadCell → ℕ
read_abits [] = 0
read_abits (c ∷ cs) = max c.row.abits (read_abits cs)

unfoldable pub write_abits : List WriteCell → ℕ
write_abits [] = 0
write_abits (c ∷ cs) = max c.row.abits (write_abits cs)

abbrev pub ids_of : List WriteCell → List ℕ
ids_of ws = map (λ (w : WriteCell). w.id) ws

-- what all ports of a memory have in common
abbrev pub frame_of : Mem → Sides → Frame
frame_of m s = record { width = m.width; abits = max (read_abits s.reads) (write_abits s.writes); ids = ids_of (by_id s.writes) }

unfoldable pub with_sides : Mem → Sides → Mem
with_sides m s = record {
  name = m.name;
  attrs = m.attrs;
  width = m.width;
  size = m.size;
  offset = m.offset;
  abits = (frame_of m s).abits;
  init = contents m s.inits;
  reads = reads_of (frame_of m s) s.reads;
  writes = writes_from (frame_of m s) 0 (by_id s.writes);
  origin = m.name;
  place = record { copy = 0; row = 0; column = 0 };
}

-- the fields of a memory that its cells say
pub record ArePartsOf (m : Mem) (s : Sides) (p : Parts) : Type 0 where
  pub abits : p.abits ≡ (frame_of m s).abits
  pub init : p.init ≡ contents m s.inits
  pub reads : p.reads ≡ reads_of (frame_of m s) s.reads
  pub writes : p.writes ≡ writes_from (frame_of m s) 0 (by_id s.writes)

abbrev pub gathered : Bucket → Mem
gathered b = with_sides b.mem (sides_of b.pieces)
