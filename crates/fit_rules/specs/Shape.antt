-- How many RAM cells a candidate has: copies for its reads, rows for the memory's words, columns for the bits of a row.
use Rattle.std.specs.Prelude.{ℕ, ◌+◌, ◌*◌, ◌/◌, ◌^◌, max, Bool, false, nat_eq, List, [], ◌∷◌, ◌++◌, count_by}
use Rattle.std.specs.Int.{div_ceil}
use Rattle.lib_core.specs.declared.library.Variant.{Variant}
use Rattle.lib_core.specs.Rams.{words_at}
use Rattle.net_core.specs.declared.mems.Mem.{Mem}
use Rattle.geom_core.specs.declared.candidates.ReadPlace.{ReadPlace}
use Rattle.geom_core.specs.declared.candidates.ReadPlace.TheVariants as place
use Rattle.geom_core.specs.declared.candidates.Shape.{Shape}
use Rattle.geom_core.specs.Layout.{spread_of}
use Rattle.fit_rules.specs.declared.spots.Spot.{Spot}
use Rattle.fit_rules.specs.Standing.{left}

-- A row of cells has 2 to the power of the fold words of the memory at each of its words.
abbrev pub row_words : Variant → Spot → ℕ
row_words v s = words_at v s.level * 2 ^ s.fold

abbrev pub rows : Mem → Variant → Spot → ℕ
rows m v s = div_ceil m.size (row_words v s)

abbrev pub columns : Mem → Variant → Spot → ℕ
columns m v s = (spread_of m v s.fold s.level).columns

abbrev pub in_group : ℕ → ReadPlace → Bool
in_group n (place.Group m) = nat_eq n m
in_group n (place.Ride m) = false

abbrev pub at_write : ℕ → ReadPlace → Bool
at_write n (place.Group m) = false
at_write n (place.Ride m) = nat_eq n m

-- The copy of a read, after the reads before it. In a group with so many names left the reads take these in order, and go on
-- in the next copy. Each read that stands at the name of one write is in a copy of its own.
abbrev pub copy_of : Variant → List ℕ → List ReadPlace → ReadPlace → ℕ
copy_of v groups before (place.Group n) = count_by (in_group n) before / left v groups n
copy_of v groups before (place.Ride w) = count_by (at_write w) before

abbrev pub copies_after : Variant → List ℕ → List ReadPlace → List ReadPlace → ℕ
copies_after v groups before [] = 1
copies_after v groups before (p ∷ ps) = max (copy_of v groups before p + 1) (copies_after v groups (before ++ p ∷ []) ps)

-- the least number that covers the copies of all reads, at least 1
abbrev pub copies : Variant → List ℕ → List ReadPlace → ℕ
copies v groups places = copies_after v groups [] places

abbrev pub shape_at : Mem → Variant → Spot → List ℕ → List ReadPlace → Shape
shape_at m v s groups places = record { copies = copies v groups places; rows = rows m v s; columns = columns m v s }

abbrev pub cells : Mem → Variant → Spot → List ℕ → List ReadPlace → ℕ
cells m v s groups places = copies v groups places * rows m v s * columns m v s
