-- How connects are followed: each place goes as far again as it went.
use Rattle.std.specs.Prelude.{◌≡◌, ◌⊎◌, ℕ, zero, suc, ◌<◌, Bool, true, List, [], ◌∷◌, length, map, Some, slice_get, slice_set}
use Rattle.std.specs.List.{list_all}
use Rattle.net_wires.specs.declared.link.Link.{Link}
use Rattle.net_wires.specs.declared.link.Link.TheVariants.{To}
use Rattle.net_wires.specs.Ties.{is_end, onward}

abbrev pub doubled : List Link → List Link
doubled t = map (onward t) t

abbrev pub power : List Link → ℕ → List Link
power t zero = t
power t (suc r) = doubled (power t r)

-- the places of a table, followed so far that what is no end lies on a ring
pub record Tied (t r : List Link) : Type 0 where
  pub rounds : ℕ
  pub is : r ≡ power t rounds
  pub far : (list_all is_end r ≡ true) ⊎ (rounds ≡ 32)

-- a place that another is left at
abbrev pub mark : List Bool → Link → List Bool
mark ms (To i) = slice_set ms i true
mark ms x = ms

abbrev pub mark_all : List Bool → List Link → List Bool
mark_all ms [] = ms
mark_all ms (x ∷ xs) = mark_all (mark ms x) xs

-- each place that leads to another leads to one that is there
abbrev pub Within : List Link → Type 0
Within t = (i j : ℕ) → slice_get t i ≡ Some (To j) → j < length t
