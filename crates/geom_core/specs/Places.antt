-- Where a bit of a word of a level lies, as a word of a higher level and a bit in it; and the limits of a variant.
use Rattle.std.specs.Prelude.{ℕ, ◌+◌, ◌-◌, ◌≤◌, List, length}
use Rattle.lib_core.specs.declared.library.Variant.{Variant}
use Rattle.lib_core.specs.Rams.{lies_above}
use Rattle.geom_core.specs.declared.geometry.BasePlace.{BasePlace}
use Rattle.geom_core.specs.Widths.{AreWidths}

-- in the words of so many levels higher
abbrev pub place_above : List ℕ → ℕ → ℕ → ℕ → ℕ → BasePlace
place_above widths steps level word bit = record { word = (lies_above widths steps level word bit).0; bit = (lies_above widths steps level word bit).1 }

-- in the words of the last level
abbrev pub place_in : List ℕ → ℕ → ℕ → ℕ → BasePlace
place_in widths level word bit = place_above widths (length widths - 1 - level) level word bit

-- The limits of a variant that its geometry rests on: every variant that a library's text gives has them.
pub record IsSized (x : Variant) : Type 0 where
  pub abits : x.abits ≤ 20
  pub levels : length x.widths ≤ x.abits + 1
  pub widths : AreWidths x.widths
