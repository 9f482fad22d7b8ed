-- Lists of bits.
use Rattle.std.specs.Prelude.{ℕ, Bool, false, List, map, slice_index_or}
use Rattle.std.specs.List.{range_with_len}

-- so many bits, all 0
abbrev pub no_bits : ℕ → List Bool
no_bits width = map (λ k. false) (range_with_len 0 width)

-- the bit at a place, 0 past the end
abbrev pub bit_or_low : List Bool → ℕ → Bool
bit_or_low bits k = slice_index_or bits k false
