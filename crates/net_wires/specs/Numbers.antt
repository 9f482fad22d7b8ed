-- Nets, numbered by their first bit along the list of places.
use Rattle.std.specs.Prelude.{◌≡◌, ℕ, suc, ◌<◌, List, [], ◌∷◌, ◌++◌, length, Option, Some, None, slice_get, option_map, if◌then◌else◌, ◌==◌}
use Rattle.net_core.specs.declared.bits.Bit.{Bit}
use Rattle.net_core.specs.declared.bits.Bit.TheVariants as bits
use Rattle.net_wires.specs.declared.link.Link.{Link}
use Rattle.net_wires.specs.declared.link.Link.TheVariants as links

-- the place of a net in a list
abbrev pub find : List ℕ → ℕ → Option ℕ
find [] p = None
find (x ∷ xs) p = if x == p then Some 0 else option_map suc (find xs p)

abbrev pub unless : Option ℕ → List ℕ → List ℕ → List ℕ
unless (Some k) xs ys = xs
unless None xs ys = ys

-- a net joins the list at its first bit
abbrev pub with_end : List ℕ → Link → List ℕ
with_end seen (links.End p) = unless (find seen p) seen (seen ++ p ∷ [])
with_end seen x = seen

abbrev pub appear : List ℕ → List Link → List ℕ
appear seen [] = seen
appear seen (e ∷ es) = appear (with_end seen e) es

-- the ends of nets in the order in which they first appear
abbrev pub nets : List Link → List ℕ
nets ends = appear [] ends

-- the bit at an end: a constant, or the net whose number is the place of its end in the list
pub data IsBit (seen : List ℕ) : Link → Bit → Type 0 where
  is_zero : IsBit seen links.Zero bits.Zero
  is_one : IsBit seen links.One bits.One
  is_net : (p k : ℕ) → find seen p ≡ Some k → IsBit seen (links.End p) (bits.Net k)

pub record Numbered (ends : List Link) (result : List Bit) (count : ℕ) : Type 0 where
  pub long : length result ≡ length ends
  pub each : (k : ℕ) (e : Link) (b : Bit) → slice_get ends k ≡ Some e → slice_get result k ≡ Some b → IsBit (nets ends) e b
  pub all : count ≡ length (nets ends)

-- the number of each net that was met
pub record Table (table : List (Option ℕ)) (seen : List ℕ) : Type 0 where
  pub at : (p : ℕ) → p < length table → slice_get table p ≡ Some (find seen p)

-- each end is a place of the list
abbrev pub EndsWithin : List Link → Type 0
EndsWithin ends = (k p : ℕ) → slice_get ends k ≡ Some (links.End p) → p < length ends
