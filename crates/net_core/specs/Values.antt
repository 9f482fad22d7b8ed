-- Bits, lists of bits, clocks and moments under a wave.
use Rattle.std.specs.Prelude.{◌≡◌, ℕ, zero, suc, ◌+◌, ◌*◌, ◌/◌, ◌%◌, ◌^◌, Bool, true, false, cond, not, ◌&&◌, List, [], ◌∷◌, Option, Some, None, nat_eq, slice_get}
use Rattle.lib_core.specs.declared.library.Tri.{Tri}
use Rattle.lib_core.specs.declared.library.Tri.TheVariants.{Zero, One, Any}
use Rattle.net_core.specs.declared.bits.Bit.{Bit}
use Rattle.net_core.specs.declared.bits.Bit.TheVariants.{Zero as Low, One as High, Net}
use Rattle.net_core.specs.declared.bits.Clock.{Clock}
use Rattle.net_core.specs.declared.bits.Clock.TheVariants.{Root, Never}

-- a value of each net
abbrev pub Valuation : Type 0
Valuation = ℕ → Bool

-- a valuation at each moment; moments count from 0
abbrev pub Wave : Type 0
Wave = ℕ → Valuation

-- What happens at a moment, the same for all modules with the same inputs: the value of each input, and at most one
-- edge, as the place of its input and whether it rises.
pub record Happening : Type 0 where
  pub values : List Bool
  pub edge : Option (ℕ × Bool)

-- what happens at a moment that there is
abbrev pub At : List Happening → ℕ → Happening → Type 0
At events t e = slice_get events t ≡ Some e

-- the value of a bit
abbrev pub value_of : Valuation → Bit → Bool
value_of v Low = false
value_of v High = true
value_of v (Net n) = v n

-- the values of a list of bits
abbrev pub values_of : Valuation → List Bit → List Bool
values_of v [] = []
values_of v (b ∷ bs) = value_of v b ∷ values_of v bs

-- the number whose bits these are, low bit first
abbrev pub number_of : List Bool → ℕ
number_of [] = 0
number_of (b ∷ bs) = cond b 1 0 + 2 * number_of bs

-- the value at a place, false past the end
abbrev pub bit_at : List Bool → ℕ → Bool
bit_at [] k = false
bit_at (b ∷ bs) zero = b
bit_at (b ∷ bs) (suc k) = bit_at bs k

-- a bit of a number
abbrev pub nat_bit : ℕ → ℕ → Bool
nat_bit n k = nat_eq (n / 2 ^ k % 2) 1

abbrev pub tri_of : Bool → Tri
tri_of true = One
tri_of false = Zero

-- a value that a bit which may be undefined can have
abbrev pub Agrees : Tri → Bool → Type 0
Agrees Zero b = b ≡ false
Agrees One b = b ≡ true
Agrees Any b = Unit {0}

-- each net shows what stands at its place
abbrev pub Shows : Valuation → List ℕ → (ℕ → Tri) → Type 0
Shows v nets bits = (k n : ℕ) → slice_get nets k ≡ Some n → Agrees (bits k) (v n)

abbrev pub same_bool : Bool → Bool → Bool
same_bool true b = b
same_bool false b = not b

-- the input at a place is this net
abbrev pub is_input : List ℕ → ℕ → ℕ → Bool
is_input [] place net = false
is_input (n ∷ ns) zero net = nat_eq n net
is_input (n ∷ ns) (suc place) net = is_input ns place net

-- the clock has its edge; inputs tells which net each input is
abbrev pub has_edge : List ℕ → Option (ℕ × Bool) → Clock → Bool
has_edge inputs None c = false
has_edge inputs (Some e) Never = false
has_edge inputs (Some e) (Root net rising) = is_input inputs e.0 net && same_bool e.1 rising
