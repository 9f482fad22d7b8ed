-- The value that is taken for a bit which may have any: bit 63 of a hash of the seed, the event, the cell and the
-- bit's place, in numbers of 64 bits.
use Rattle.std.specs.Prelude.{ℕ, ◌+◌, ◌*◌, ◌/◌, ◌%◌, ◌^◌, ◌==◌, Bool, bit_xor}

-- the places as one number
unfoldable pub place_sum : ℕ → ℕ → ℕ → ℕ → ℕ
place_sum seed event cell bit = (seed * 11400714819323198485 + event * 6364136223846793005 + cell * 1442695040888963407 + bit * 3935559000370003845) % 2 ^ 64

-- the number with its upper half mixed into the lower, spread over all bits
unfoldable pub mixed : ℕ → ℕ
mixed sum = (bit_xor sum (sum / 2 ^ 32) * 2862933555777941757) % 2 ^ 64

unfoldable pub picked : ℕ → ℕ → ℕ → ℕ → Bool
picked seed event cell bit = mixed (place_sum seed event cell bit) / 2 ^ 63 == 1
