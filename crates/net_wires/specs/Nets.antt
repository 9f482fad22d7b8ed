-- Which bits stand at places that connects tie together.
use Rattle.std.specs.Prelude.{◌≡◌, ◌⊎◌, ℕ, suc, ◌<◌, Bool, List, [], ◌∷◌, length, get_or, Some, slice_get, if◌then◌else◌}
use Rattle.std.specs.List.{list_any}
use Rattle.net_core.specs.declared.bits.Bit.{Bit}
use Rattle.net_core.specs.declared.bits.Bit.TheVariants as bits
use Rattle.net_wires.specs.declared.breach.Breach.{Breach}
use Rattle.net_wires.specs.declared.breach.BuildCode.TheVariants as code
use Rattle.net_wires.specs.declared.link.Link.{Link}
use Rattle.net_wires.specs.declared.link.Link.TheVariants as links
use Rattle.net_wires.specs.declared.source.Source.{Source}
use Rattle.net_wires.specs.declared.source.Source.TheVariants as source
use Rattle.net_wires.specs.Finds.{breach}
use Rattle.net_wires.specs.Numbers.{Numbered}
use Rattle.net_wires.specs.Ties.{Leads, OnRing}

-- The bits of places, without any following: the sides of a connect have one bit, a constant stands where a connect says
-- so, and each place that no connect drives has a net of its own.
pub record Solves (t : List Link) (new : List Bit) : Type 0 where
  pub equal : (l r : ℕ) → slice_get t l ≡ Some (links.To r) → r < length t → slice_get new l ≡ slice_get new r
  pub zero : (l : ℕ) → slice_get t l ≡ Some links.Zero → slice_get new l ≡ Some bits.Zero
  pub one : (l : ℕ) → slice_get t l ≡ Some links.One → slice_get new l ≡ Some bits.One
  pub net : (l : ℕ) → slice_get t l ≡ Some (links.End l) → (k : ℕ) × (slice_get new l ≡ Some (bits.Net k))
  pub apart : (l m k : ℕ) → slice_get t l ≡ Some (links.End l) → slice_get t m ≡ Some (links.End m) → slice_get new l ≡ Some (bits.Net k) → slice_get new m ≡ Some (bits.Net k) → l ≡ m

-- Along the bits, each net is one that was met, or has the next number; n were met before, and there are total.
abbrev pub InOrder : ℕ → List Bit → ℕ → Type 0
InOrder n [] total = total ≡ n
InOrder n (bits.Zero ∷ bs) total = InOrder n bs total
InOrder n (bits.One ∷ bs) total = InOrder n bs total
InOrder n (bits.Net k ∷ bs) total = ((k < n) × InOrder n bs total) ⊎ ((k ≡ n) × InOrder (suc n) bs total)

-- the same by following: each place has the bit of its end, and nets are numbered by their first bit
pub record Resolves (t : List Link) (new : List Bit) (count : ℕ) : Type 0 where
  pub ends : List Link
  pub long : length ends ≡ length t
  pub leads : (i : ℕ) (e : Link) → slice_get ends i ≡ Some e → Leads t (links.To i) e
  pub numbered : Numbered ends new count

-- a ring of connects is a breach; the marks say which places lie on one
abbrev pub ring_breaches : List Bool → List Breach
ring_breaches marks = if list_any (λ on. on) marks then breach code.CombLoop ∷ [] else []

-- the bit that stands in a signal; a digit without a value has none, and counts as 0
abbrev pub bit_of : List Bit → Source → Bit
bit_of v source.Zero = bits.Zero
bit_of v source.One = bits.One
bit_of v source.Loose = bits.Zero
bit_of v (source.At p) = get_or v p bits.Zero

-- no place lies on a ring of connects
abbrev pub HasNoRing : List Link → Type 0
HasNoRing t = (i : ℕ) → i < length t → OnRing t i → ⊥
