-- What packed limbs stand for as rows of bits that may be undefined, and what a change of some lanes makes of a row.
use Rattle.std.specs.Prelude.{◌≡◌, ℕ, ◌+◌, ◌*◌, ◌/◌, ◌&&◌, nat_lt, Bool, true, false, cond, List, [], ◌∷◌, length, map, slice_index_or}
use Rattle.std.specs.List.{range_with_len}
use Rattle.lib_core.specs.declared.library.Tri.{Tri}
use Rattle.lib_core.specs.declared.library.Tri.TheVariants.{Zero, One, Any}
use Rattle.lib_core.specs.Rams.{tri_at}
use Rattle.row_store.specs.Limbs.{bit_in}

-- a bit is 1; it is 0 or 1
abbrev pub is_one : Tri → Bool
is_one Zero = false
is_one One = true
is_one Any = false

abbrev pub is_defined : Tri → Bool
is_defined Zero = true
is_defined One = true
is_defined Any = false

-- a bit by its value and whether it is known
abbrev pub tri_by : Bool → Bool → Tri
tri_by value false = Any
tri_by false true = Zero
tri_by true true = One

-- a bit of limbs with the values and limbs that tell which of them are known
abbrev pub tri_in : List ℕ → List ℕ → ℕ → Tri
tri_in values known k = tri_by (bit_in values k) (bit_in known k)

-- the low bits of limbs
abbrev pub row_in : ℕ → List ℕ → List ℕ → List Tri
row_in width values known = map (tri_in values known) (range_with_len 0 width)

-- A value is 1 exactly where the row's bit is 1, and known exactly where the bit is defined. From the width on both are 0.
abbrev pub IsPacked : ℕ → List ℕ → List ℕ → Type 0
IsPacked width values known = (k : ℕ) → (bit_in values k ≡ (nat_lt k width && is_one (tri_in values known k))) × (bit_in known k ≡ (nat_lt k width && is_defined (tri_in values known k)))

-- a row, and a bit of a row; past the end nothing
abbrev pub row_of : List (List Tri) → ℕ → List Tri
row_of rows row = slice_index_or rows row []

abbrev pub bit_of : List (List Tri) → ℕ → ℕ → Tri
bit_of rows row k = tri_at (row_of rows row) k

-- the rows of this width that a list of bits holds, row 0 first, low bit first
abbrev pub row_cut : List Tri → ℕ → ℕ → List Tri
row_cut init width row = map (λ k. tri_at init (row * width + k)) (range_with_len 0 width)

abbrev pub rows_cut : List Tri → ℕ → List (List Tri)
rows_cut init width = map (row_cut init width) (range_with_len 0 (length init / width))

-- A row, its bits counted from a place on, in which the masked bits take their value where it is known and else become
-- undefined.
abbrev pub changed_from : ℕ → List ℕ → List ℕ → List ℕ → List Tri → List Tri
changed_from at mask value known [] = []
changed_from at mask value known (t ∷ ts) = cond (bit_in mask at) (tri_in value known at) t ∷ changed_from (at + 1) mask value known ts

abbrev pub changed : List ℕ → List ℕ → List ℕ → List Tri → List Tri
changed mask value known row = changed_from 0 mask value known row
