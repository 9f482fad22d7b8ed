-- New names.
use Rattle.std.specs.Prelude.{◌≡◌, ℕ, Bool, false, List, [], ◌∷◌, ◌++◌, if◌then◌else◌}
use Rattle.std.specs.List.{list_any}
use Rattle.std.specs.Str.{bytes_eq}

-- some name is this one
unfoldable pub has : List (List ℕ) → List ℕ → Bool
has names name = list_any (λ n. bytes_eq name n) names

unfoldable pub with_name : List (List ℕ) → List ℕ → List (List ℕ)
with_name names name = if has names name then names else names ++ name ∷ []

-- a name with `_` behind it, as often as is needed
pub data IsLonger (wanted : List ℕ) : List ℕ → Type 0 where
  same : IsLonger wanted wanted
  longer : (name : List ℕ) → IsLonger wanted name → IsLonger wanted (name ++ 95 ∷ [])

-- a name that is not taken, and begins with the one that is wanted
pub record IsFresh (taken : List (List ℕ)) (wanted name : List ℕ) : Type 0 where
  pub longer : IsLonger wanted name
  pub free : has taken name ≡ false
