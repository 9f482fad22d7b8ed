-- Bits over several limbs of 64 bits, the low limb first.
use Rattle.std.specs.Prelude.{ℕ, ◌/◌, ◌%◌, ◌^◌, Bool, List, nat_eq, slice_index}

-- a bit; past the last limb none is set
unfoldable pub bit_in : List ℕ → ℕ → Bool
bit_in limbs k = nat_eq (slice_index limbs (k / 64) / 2 ^ (k % 64) % 2) 1
