-- How many drivers each place has.
use Rattle.std.specs.Prelude.{◌≡◌, ℕ, ◌<◌, Bool, true, false, List, [], ◌∷◌, length, min, Option, Some, None, slice_get, if◌then◌else◌, nat_lt, ◌==◌, ◌||◌}
use Rattle.std.specs.List.{count_by, list_any, range_with_len}
use Rattle.net_wires.specs.declared.breach.Breach.{Breach}
use Rattle.net_wires.specs.declared.breach.BuildCode.TheVariants as code
use Rattle.net_wires.specs.declared.driving.Drivers.{Drivers}
use Rattle.net_wires.specs.declared.source.Source.{Source}
use Rattle.net_wires.specs.declared.source.Source.TheVariants as source
use Rattle.net_wires.specs.Finds.{breach}

abbrev pub is_place : ℕ → Source → Bool
is_place p (source.At l) = l == p
is_place p s = false

abbrev pub is_constant : Source → Bool
is_constant (source.At l) = false
is_constant s = true

-- of what is driven, one entry for each driver, how often a place is
abbrev pub driver_count : List Source → ℕ → ℕ
driver_count driven p = count_by (is_place p) driven

abbrev pub is_doubly_driven : List Source → ℕ → Bool
is_doubly_driven driven p = nat_lt 1 (driver_count driven p)

-- one of n places has two drivers, or a constant has one
abbrev pub has_conflict : ℕ → List Source → Bool
has_conflict n driven = list_any (is_doubly_driven driven) (range_with_len 0 n) || list_any is_constant driven

abbrev pub driver_breaches : ℕ → List Source → List Breach
driver_breaches n driven = if has_conflict n driven then breach code.TwoDrivers ∷ [] else []

-- the first of n places with two drivers
abbrev pub IsFirstDouble : ℕ → List Source → Option ℕ → Type 0
IsFirstDouble n driven None = (p : ℕ) → p < n → is_doubly_driven driven p ≡ false
IsFirstDouble n driven (Some i) = (i < n) × (is_doubly_driven driven i ≡ true) × ((p : ℕ) → p < i → is_doubly_driven driven p ≡ false)

-- drivers of n places, counted up to two, and whether a constant is driven
pub record Tally (n : ℕ) (driven : List Source) (t : Drivers) : Type 0 where
  pub long : length t.counts.items ≡ n
  pub at : (p : ℕ) → p < n → slice_get t.counts.items p ≡ Some (min 2 (driver_count driven p))
  pub constant : t.constant ≡ list_any is_constant driven
