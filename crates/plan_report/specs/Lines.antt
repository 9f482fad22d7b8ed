-- The lines of a report: words, numbers in decimal digits and names, each line with a line feed at its end.
use Rattle.std.specs.Prelude.{ℕ, List, [], ◌∷◌, ◌++◌, codes, decimal}
use Rattle.geom_core.specs.declared.candidates.RamChoice.{RamChoice}
use Rattle.geom_core.specs.declared.candidates.Shape.{Shape}

-- words with a number behind them, or a name
unfoldable pub field : List ℕ → ℕ → List ℕ
field words number = words ++ decimal number

unfoldable pub named : List ℕ → List ℕ → List ℕ
named words name = words ++ name

abbrev pub line_end : List ℕ
line_end = 10 ∷ []

unfoldable pub memory_line : List ℕ → List ℕ → List ℕ
memory_line owner name = named (codes "memory ") owner ++ (named (codes " ") name ++ line_end)

abbrev pub registers_line : List ℕ
registers_line = codes "registers\n"

-- where a choice is in the library, and how many cells it has
unfoldable pub spot_part : RamChoice → List ℕ
spot_part c = field (codes " variant ") c.variant ++ (field (codes " fold ") c.fold ++ field (codes " level ") c.level)

unfoldable pub shape_part : Shape → List ℕ
shape_part s = field (codes " copies ") s.copies ++ (field (codes " rows ") s.rows ++ field (codes " columns ") s.columns)

unfoldable pub ram_line : List ℕ → RamChoice → Shape → List ℕ
ram_line name c s = named (codes "ram ") name ++ (spot_part c ++ (shape_part s ++ line_end))

unfoldable pub write_line : ℕ → List ℕ → List ℕ
write_line number slot = field (codes "write ") number ++ (named (codes " ") slot ++ line_end)

-- a read at a port of its own, and one at the port of a write
unfoldable pub read_line : ℕ → List ℕ → ℕ → List ℕ
read_line number slot copy = field (codes "read ") number ++ (named (codes " ") slot ++ (field (codes " copy ") copy ++ line_end))

unfoldable pub ride_line : ℕ → ℕ → ℕ → List ℕ
ride_line number write copy = field (codes "read ") number ++ (field (codes " ride ") write ++ (field (codes " copy ") copy ++ line_end))

unfoldable pub points_line : ℕ → List ℕ
points_line points = field (codes "points ") points ++ line_end

unfoldable pub total_line : ℕ → List ℕ
total_line points = field (codes "total ") points ++ line_end
