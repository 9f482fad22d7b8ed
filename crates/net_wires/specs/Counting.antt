-- How drivers are counted.
use Rattle.std.specs.Prelude.{◌≡◌, ℕ, ◌+◌, ◌<◌, ◌≤◌, List, [], ◌∷◌, length, get_or, slice_get, slice_set, Option, Some, None, if◌then◌else◌, nat_lt}
use Rattle.net_wires.specs.declared.source.Source.{Source}
use Rattle.net_wires.specs.declared.source.Source.TheVariants as source

abbrev pub bump : List ℕ → Source → List ℕ
bump t (source.At l) = slice_set t l (if nat_lt (get_or t l 2) 2 then get_or t l 2 + 1 else get_or t l 2)
bump t s = t

abbrev pub bump_all : List ℕ → List Source → List ℕ
bump_all t [] = t
bump_all t (s ∷ ss) = bump_all (bump t s) ss

abbrev pub IsFirstAboveOne : List ℕ → Option ℕ → Type 0
IsFirstAboveOne t None = (p c : ℕ) → slice_get t p ≡ Some c → c ≤ 1
IsFirstAboveOne t (Some i) = (i < length t) × ((c : ℕ) → slice_get t i ≡ Some c → 1 < c) × ((p c : ℕ) → p < i → slice_get t p ≡ Some c → c ≤ 1)
