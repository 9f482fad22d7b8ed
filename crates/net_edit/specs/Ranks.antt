-- How high the ranks of bits are, and which bits have nets of a module.
use Rattle.std.specs.Prelude.{ℕ, suc, ◌<◌, max, List, [], ◌∷◌}
use Rattle.net_core.specs.declared.bits.Bit.{Bit}
use Rattle.net_core.specs.declared.bits.Bit.TheVariants.{Zero, One, Net}
use Rattle.net_core.specs.Nodes.{HasNet}

-- one more than the rank of the bit's net, or than all ranks of the bits
abbrev pub bit_height : (ℕ → ℕ) → Bit → ℕ
bit_height rank Zero = 0
bit_height rank One = 0
bit_height rank (Net n) = suc (rank n)

abbrev pub height : (ℕ → ℕ) → List Bit → ℕ
height rank [] = 0
height rank (b ∷ bs) = max (bit_height rank b) (height rank bs)

-- the nets of the bits are below a number
abbrev pub BitsBelow : ℕ → List Bit → Type 0
BitsBelow top bits = (n : ℕ) → HasNet bits n → n < top
