-- The choices of option values that make variants: options in the order of their first mention, the values of each
-- in theirs, one of each, and the last option varies fastest.
use Rattle.std.specs.Prelude.{ℕ, ◌*◌, Bool, false, List, [], ◌∷◌, ◌++◌, length, map, Option, Some, None, ◌==◌, ◌&&◌, if◌then◌else◌, min}
use Rattle.std.specs.List.{flat_map, list_any}
use Rattle.std.specs.Str.{bytes_eq}
use Rattle.lib_core.specs.declared.library.Choice.{Choice}
use Rattle.lib_core.specs.declared.library.Value.{Value}
use Rattle.lib_core.specs.declared.library.Value.TheVariants as value
use Rattle.lib_tree.specs.declared.statement.Scope.{Scope}
use Rattle.lib_tree.specs.declared.statement.Scope.TheVariants as scope
use Rattle.lib_tree.specs.declared.statement.Statement.{Statement}
use Rattle.lib_tree.specs.declared.statement.Statement.TheVariants as statement

abbrev pub same_value : Value → Value → Bool
same_value (value.Number n) (value.Number m) = n == m
same_value (value.Text s) (value.Text t) = bytes_eq s t
same_value v w = false

abbrev pub same_choice : Choice → Choice → Bool
same_choice c d = bytes_eq c.name d.name && same_value c.value d.value

abbrev pub has_choice : List Choice → Choice → Bool
has_choice cs c = list_any (λ d. same_choice d c) cs

abbrev pub has_name : List (List ℕ) → List ℕ → Bool
has_name ns n = list_any (λ m. bytes_eq m n) ns

abbrev pub option_in : Scope → Statement → Option Choice
option_in scope.Ram (statement.Block scope.Ram c) = Some c
option_in scope.Port (statement.Block scope.Port c) = Some c
option_in s t = None

abbrev pub and_mentions : Option Choice → List Choice → List Choice
and_mentions None cs = cs
and_mentions (Some c) cs = c ∷ cs

-- the options of the scope and their values, as they are written
unfoldable pub mentions : Scope → List Statement → List Choice
mentions s [] = []
mentions s (t ∷ ts) = and_mentions (option_in s t) (mentions s ts)

-- the name of the option whose values these are
abbrev pub first_name : List Choice → List ℕ
first_name [] = []
first_name (c ∷ cs) = c.name

abbrev pub with_value : List Choice → Choice → List Choice
with_value vs c = if has_choice vs c then vs else vs ++ c ∷ []

-- a choice among the values of its option, at its first mention, or of a new option behind the others
unfoldable pub with_choice : List (List Choice) → Choice → List (List Choice)
with_choice [] c = (c ∷ []) ∷ []
with_choice (vs ∷ axes) c = if bytes_eq c.name (first_name vs) then with_value vs c ∷ axes else vs ∷ with_choice axes c

unfoldable pub axes_from : List (List Choice) → List Choice → List (List Choice)
axes_from axes [] = axes
axes_from axes (c ∷ cs) = axes_from (with_choice axes c) cs

-- the values of each option
abbrev pub axes : List Choice → List (List Choice)
axes cs = axes_from [] cs

-- a row with each choice behind it
abbrev pub row_with : List Choice → List Choice → List (List Choice)
row_with axis row = map (λ c. row ++ c ∷ []) axis

abbrev pub extend : List (List Choice) → List Choice → List (List Choice)
extend rows axis = flat_map (row_with axis) rows

-- each row with one choice of each axis behind it; the last varies fastest
unfoldable pub rows_from : List (List Choice) → List (List Choice) → List (List Choice)
rows_from rows [] = rows
rows_from rows (axis ∷ more) = rows_from (extend rows axis) more

-- how many rows there are, as far as 257
unfoldable pub capped_count : ℕ → List (List Choice) → ℕ
capped_count n [] = n
capped_count n (axis ∷ more) = capped_count (min (n * min (length axis) 257) 257) more
