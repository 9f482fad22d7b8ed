-- The points of a choice that is not complete are a bound: they never fall as it grows.
use Rattle.std.specs.Prelude.{ℕ, ◌≤◌, List, [], ◌++◌}
use Rattle.lib_core.specs.declared.library.Variant.{Variant}
use Rattle.net_core.specs.declared.mems.MemJob.{MemJob}
use Rattle.geom_core.specs.declared.candidates.ReadPlace.{ReadPlace}
use Rattle.fit_rules.specs.declared.spots.Spot.{Spot}
use Rattle.fit_cost.specs.Points.{ram_points}

-- as reads get places
abbrev pub RiseWithPlaces : Type 0
RiseWithPlaces = (job : MemJob) (v : Variant) (s : Spot) (groups : List ℕ) (so_far more : List ReadPlace) → ram_points job v s groups so_far ≤ ram_points job v s groups (so_far ++ more)

-- as writes get groups, while no read has a place
abbrev pub RiseWithGroups : Type 0
RiseWithGroups = (job : MemJob) (v : Variant) (s : Spot) (so_far more : List ℕ) → ram_points job v s so_far [] ≤ ram_points job v s (so_far ++ more) []
