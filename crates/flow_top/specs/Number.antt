-- Numbers in decimal digits.
use Rattle.std.specs.Prelude.{ℕ, ◌+◌, ◌-◌, ◌*◌, ◌^◌, Bool, List, [], ◌∷◌, Option, Some, None, nat_lt, nat_le, ◌&&◌, if◌then◌else◌}

abbrev pub is_digit : ℕ → Bool
is_digit byte = nat_le 48 byte && nat_le byte 57

-- the number that digits spell behind another, below 2 ^ 64
unfoldable pub number_from : ℕ → List ℕ → Option ℕ
number_from number [] = Some number
number_from number (byte ∷ bytes) =
    if is_digit byte then (if nat_lt (10 * number + (byte - 48)) (2 ^ 64) then number_from (10 * number + (byte - 48)) bytes else None) else None

-- the number that some digits spell
unfoldable pub number_of : List ℕ → Option ℕ
number_of [] = None
number_of (byte ∷ bytes) = number_from 0 (byte ∷ bytes)
