-- The names of cells that an edit adds: `$edit`, so many underscores that no cell of the module as given has a name that begins
-- so, and a number. (The form of these names is this project's own.)
use Rattle.std.specs.Prelude.{◌≡◌, ℕ, ◌+◌, ◌^◌, ◌<◌, ◌≤◌, max, cond, nat_eq, List, [], ◌∷◌, ◌++◌, drop, replicate, codes, fold, Some, slice_get}
use Rattle.std.specs.List.{starts_with}
use Rattle.std.specs.Fmt.{decimal}

-- how many underscores a text begins with
abbrev pub underscores : List ℕ → ℕ
underscores [] = 0
underscores (b ∷ bs) = cond (nat_eq b 95) (1 + underscores bs) 0

-- how many underscores behind `$edit` a name asks for, which may not begin so
unfoldable pub marks_of : List ℕ → ℕ
marks_of name = cond (starts_with nat_eq name (codes "$edit")) (1 + underscores (drop 5 name)) 0

abbrev pub more_marks : ℕ → List ℕ → ℕ
more_marks n name = max n (marks_of name)

-- the most that one of these names asks for, and at least a number
abbrev pub most_marks : ℕ → List (List ℕ) → ℕ
most_marks n names = fold more_marks n names

-- `$edit` with so many underscores
abbrev pub marked : ℕ → List ℕ
marked n = codes "$edit" ++ replicate n 95

-- the name with a number
abbrev pub numbered : List ℕ → ℕ → List ℕ
numbered front n = front ++ decimal n

-- no name is one with a number from this one on
pub record AreFree (front : List ℕ) (count : ℕ) (names : List (List ℕ)) : Type 0 where
  pub apart : (k : ℕ) (x : List ℕ) → slice_get names k ≡ Some x → (i : ℕ) → count ≤ i → i < 2 ^ 64 → x ≡ numbered front i → ⊥

-- what names with numbers begin with
pub record IsFront (front : List ℕ) : Type 0 where
  pub marks : ℕ
  pub is : front ≡ marked marks
