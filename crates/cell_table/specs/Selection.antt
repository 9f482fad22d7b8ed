-- Which selectors are set, by the places of those that are.
use Rattle.std.specs.Prelude.{ℕ, List, [], ◌∷◌}
use Rattle.cell_table.specs.declared.selector.Selection.{Selection}
use Rattle.cell_table.specs.declared.selector.Selection.TheVariants.{Nothing, One, Several}

abbrev pub selection_of : List ℕ → Selection
selection_of [] = Nothing
selection_of (place ∷ []) = One place
selection_of (place ∷ other ∷ rest) = Several

-- one more that is set
abbrev pub with_place : Selection → ℕ → Selection
with_place Nothing at = One at
with_place (One place) at = Several
with_place Several at = Several
