-- Cells that are put to their memories one after the other come to the cells of each memory in file order.
use Rattle.std.proofs.Common.{◌≡◌, ℕ, zero, suc, ◌+◌, ◌<◌, ◌≤◌, List, [], ◌∷◌, ◌++◌, length, get_or, set, Option, Some, None, refl, ap, sym, ◌∙◌, append_assoc, arith}
use Rattle.std.specs.Prelude.{nat_eq, if◌then◌else◌}
use Rattle.std.proofs.lemmas.Grind.{common_steps}
use Rattle.net_core.specs.declared.mems.Mem.{Mem}
use Rattle.net_core.specs.declared.modules.MemPart.{MemPart}
use Rattle.mem_rows.specs.declared.row.MemRow.{MemRow}
use Rattle.part_faults.specs.Parts.{home_of, row_of}
use Rattle.net_collect.specs.declared.grouping.Bucket.{Bucket}
use Rattle.net_collect.specs.declared.grouping.Groups.{Groups}
use Rattle.net_collect.specs.declared.grouping.Piece.{Piece}
use Rattle.net_collect.specs.Grouping.{buckets_from, empty_buckets, groups_by, is_at, piece, piece_at, pieces_of, put_at, put_found, put_row, whole_in, wholes_of, with_part, with_parts}

-- each memory gets cells behind those that it has
abbrev spread : (ℕ → List Piece) → ℕ → List Bucket → List Bucket
spread f k [] = []
spread f k (b ∷ bs) = record { mem = b.mem; pieces = b.pieces ++ f k } ∷ spread f (k + 1) bs

none_behind : (ps : List Piece) → ps ++ [] ≡ ps
none_behind ps = search common_steps

bucket_same : (b : Bucket) (ps : List Piece) → ps ≡ [] → record { mem = b.mem; pieces = b.pieces ++ ps } ≡ b
bucket_same b ps e = λ i. record { mem = b.mem; pieces = (ap (λ qs. b.pieces ++ qs) e ∙ none_behind b.pieces) i }

spread_none : (f : ℕ → List Piece) (k : ℕ) (bs : List Bucket) → ((j : ℕ) → k ≤ j → f j ≡ []) → spread f k bs ≡ bs
spread_none f k [] h = refl
spread_none f k (b ∷ bs) h = λ i. bucket_same b (f k) (h k (omega arith)) i ∷ spread_none f (k + 1) bs (λ j le. h j (omega (arith, le))) i

spread_twice : (f g : ℕ → List Piece) (k : ℕ) (bs : List Bucket) → spread f k (spread g k bs) ≡ spread (λ j. g j ++ f j) k bs
spread_twice f g k [] = refl
spread_twice f g k (b ∷ bs) = λ i. record { mem = b.mem; pieces = append_assoc b.pieces (g k) (f k) i } ∷ spread_twice f g (k + 1) bs i

-- a cell at one place
abbrev only : ℕ → Piece → ℕ → List Piece
only m p k = if nat_eq m k then p ∷ [] else []

only_here : (m k : ℕ) (p : Piece) → m ≡ k → only m p k ≡ p ∷ []
only_here m k p e = grind arith

only_there : (m k : ℕ) (p : Piece) → (m ≡ k → ⊥) → only m p k ≡ []
only_there m k p ne = grind arith

put_spread : (n k m : ℕ) (p : Piece) (bs : List Bucket) → m ≡ k + n → put_at n p bs ≡ spread (only m p) k bs
put_spread zero k m p [] e = refl
put_spread (suc n) k m p [] e = refl
put_spread zero k m p (b ∷ bs) e = λ i.
    record { mem = b.mem; pieces = b.pieces ++ sym (only_here m k p (omega (arith, e))) i } ∷ sym (spread_none (only m p) (k + 1) bs (λ j le. only_there m j p (λ s. omega (arith, e, le, s)))) i
put_spread (suc n) k m p (b ∷ bs) e = λ i. sym (bucket_same b (only m p k) (only_there m k p (λ s. omega (arith, e, s)))) i ∷ put_spread n (k + 1) m p bs (omega (arith, e)) i

found_spread : (o : Option ℕ) (p : Piece) (bs : List Bucket) → put_found o p bs ≡ spread (λ k. if is_at o k then p ∷ [] else []) 0 bs
found_spread None p bs = sym (spread_none (λ k. []) 0 bs (λ j le. refl))
found_spread (Some n) p bs = put_spread n 0 n p bs (omega arith)

row_spread : (place : List ℕ → Option ℕ) (o : Option MemRow) (p : MemPart) (bs : List Bucket) → put_row place o p bs ≡ spread (λ k. piece_at place k o p) 0 bs
row_spread place None p bs = sym (spread_none (λ k. []) 0 bs (λ j le. refl))
row_spread place (Some r) p bs = found_spread (home_of place r) (piece r p) bs

abbrev spread_parts : (List ℕ → Option ℕ) → Groups → List MemPart → Groups
spread_parts place g ps = record { buckets = spread (λ k. pieces_of place k ps) 0 g.buckets; wholes = g.wholes ++ wholes_of ps }

mems_alone : (ms : List Mem) → ms ++ [] ≡ ms
mems_alone ms = search common_steps

no_parts : (place : List ℕ → Option ℕ) (g : Groups) → g ≡ spread_parts place g []
unfolding pieces_of wholes_of
no_parts place g = λ i. record { buckets = sym (spread_none (λ k. []) 0 g.buckets (λ j le. refl)) i; wholes = sym (mems_alone g.wholes) i }

one_part : (place : List ℕ → Option ℕ) (g : Groups) (p : MemPart) (ps : List MemPart) → spread_parts place (with_part place g p) ps ≡ spread_parts place g (p ∷ ps)
unfolding pieces_of wholes_of with_part
one_part place g p ps = λ i. record {
  buckets = (ap (spread (λ k. pieces_of place k ps) 0) (row_spread place (row_of p) p g.buckets) ∙ spread_twice (λ k. pieces_of place k ps) (λ k. piece_at place k (row_of p) p) 0 g.buckets) i;
  wholes = append_assoc g.wholes (whole_in (row_of p) p) (wholes_of ps) i;
}

all_parts : (place : List ℕ → Option ℕ) (g : Groups) (ps : List MemPart) → with_parts place g ps ≡ spread_parts place g ps
unfolding with_parts
all_parts place g [] = no_parts place g
all_parts place g (p ∷ ps) = all_parts place (with_part place g p) ps ∙ one_part place g p ps

from_empty : (place : List ℕ → Option ℕ) (k : ℕ) (ds : List Mem) (ps : List MemPart) → spread (λ j. pieces_of place j ps) k (empty_buckets ds) ≡ buckets_from place k ds ps
unfolding buckets_from
from_empty place k [] ps = refl
from_empty place k (d ∷ ds) ps = ap (λ bs. record { mem = d; pieces = pieces_of place k ps } ∷ bs) (from_empty place (k + 1) ds ps)

abbrev pub empty_groups : List Mem → Groups
empty_groups ds = record { buckets = empty_buckets ds; wholes = [] }

pub groups_made : (place : List ℕ → Option ℕ) (ds : List Mem) (ps : List MemPart) → with_parts place (empty_groups ds) ps ≡ groups_by place ds ps
groups_made place ds ps = all_parts place (empty_groups ds) ps ∙ (λ i. record { buckets = from_empty place 0 ds ps i; wholes = wholes_of ps })

pub groups_placed : (found place : List ℕ → Option ℕ) (ds : List Mem) (ps : List MemPart) → ((n : List ℕ) → found n ≡ place n) → groups_by found ds ps ≡ groups_by place ds ps
groups_placed found place ds ps h = ap (λ f. groups_by f ds ps) (λ i n. h n i)

-- the cells of one memory get one more
pub put_here : (n : ℕ) (bs : List Bucket) (p : Piece) (b : Bucket) (after : List Piece) → n < length bs → b ≡ get_or bs n b → after ≡ b.pieces ++ p ∷ [] → set bs n (record { mem = b.mem; pieces = after }) ≡ put_at n p bs
put_here zero [] p b after within is pushed = absurd (omega (arith, within))
put_here (suc n) [] p b after within is pushed = absurd (omega (arith, within))
put_here zero (x ∷ xs) p b after within is pushed = λ i. record { mem = (is i).mem; pieces = (pushed ∙ ap (λ (c : Bucket). c.pieces ++ p ∷ []) is) i } ∷ xs
put_here (suc n) (x ∷ xs) p b after within is pushed = ap (λ rest. x ∷ rest) (put_here n xs p b after (omega (arith, within)) is pushed)

pub put_past : (n : ℕ) (bs : List Bucket) (p : Piece) → length bs ≤ n → put_at n p bs ≡ bs
put_past zero [] p h = refl
put_past (suc n) [] p h = refl
put_past zero (x ∷ xs) p h = absurd (omega (arith, h))
put_past (suc n) (x ∷ xs) p h = ap (λ rest. x ∷ rest) (put_past n xs p (omega (arith, h)))
