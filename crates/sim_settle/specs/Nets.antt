-- Bits that are written to nets.
use Rattle.std.specs.Prelude.{◌≡◌, ℕ, ◌<◌, Bool, List, Some, slice_get}
use Rattle.net_core.specs.Values.{Valuation}

-- the net is among these
abbrev pub IsAmong : List ℕ → ℕ → Type 0
IsAmong nets n = (k : ℕ) × (slice_get nets k ≡ Some n)

-- each of the nets is one of so many
abbrev pub AreBelow : ℕ → List ℕ → Type 0
AreBelow limit nets = (k n : ℕ) → slice_get nets k ≡ Some n → n < limit

-- no net stands twice
abbrev pub AreApart : List ℕ → Type 0
AreApart nets = (k l n : ℕ) → slice_get nets k ≡ Some n → slice_get nets l ≡ Some n → k ≡ l

-- each of the nets has what belongs at its place, and all others are as before
pub record Writes (nets : List ℕ) (bits : ℕ → Bool) (old new : Valuation) : Type 0 where
  pub written : (k n : ℕ) → slice_get nets k ≡ Some n → new n ≡ bits k
  pub kept : (n : ℕ) → (IsAmong nets n → ⊥) → new n ≡ old n

-- each of the nets has what belongs to its number, and all others are as before
pub record Fills (nets : List ℕ) (bits : ℕ → Bool) (old new : Valuation) : Type 0 where
  pub filled : (n : ℕ) → IsAmong nets n → new n ≡ bits n
  pub kept : (n : ℕ) → (IsAmong nets n → ⊥) → new n ≡ old n
