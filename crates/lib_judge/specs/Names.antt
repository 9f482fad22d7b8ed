-- The names of ports: all of them, and whether one stands twice.
use Rattle.std.specs.Prelude.{ℕ, ◌+◌, Bool, false, List, [], ◌∷◌, ◌++◌, Option, Some, None, ◌||◌, if◌then◌else◌}
use Rattle.std.specs.List.{flat_map}
use Rattle.std.specs.Str.{bytes_eq}
use Rattle.lib_judge.specs.declared.raw.RawPort.{RawPort}
use Rattle.lib_judge.specs.Variants.{has_name}

abbrev pub names_of_all : List RawPort → List (List ℕ)
names_of_all ports = flat_map (λ p. p.names) ports

unfoldable pub names_repeat : List (List ℕ) → Bool
names_repeat [] = false
names_repeat (n ∷ ns) = has_name ns n || names_repeat ns

-- names with one more, if it is new
unfoldable pub with_name : List (List ℕ) → List ℕ → List (List ℕ)
with_name ns n = if has_name ns n then ns else ns ++ n ∷ []

-- names and more of them, where none stands twice
unfoldable pub distinct_from : List (List ℕ) → List (List ℕ) → Option (List (List ℕ))
distinct_from seen [] = Some seen
distinct_from seen (n ∷ ns) = if has_name seen n then None else distinct_from (with_name seen n) ns

-- how many names stand before the name, or how many there are
unfoldable pub place_of : List (List ℕ) → List ℕ → ℕ
place_of [] n = 0
place_of (m ∷ ns) n = if bytes_eq n m then 0 else 1 + place_of ns n
