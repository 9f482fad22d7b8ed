-- Whether anything can stand at a spot: there are groups in which the writes stand and that leave a place for each read. No
-- row has to be laid out to say so.
use Rattle.std.specs.Prelude.{ℕ, ◌+◌, Bool, true, false, ◌&&◌, ◌||◌, Option, Some, None, List, [], ◌∷◌, fold}
use Rattle.lib_core.specs.declared.library.Group.{Group}
use Rattle.lib_core.specs.declared.library.Variant.{Variant}
use Rattle.net_core.specs.declared.mems.Mem.{Mem}
use Rattle.net_core.specs.declared.mems.RdPort.{RdPort}
use Rattle.net_core.specs.declared.mems.WrPort.{WrPort}
use Rattle.geom_core.specs.declared.candidates.ReadPlace.{ReadPlace}
use Rattle.geom_core.specs.declared.candidates.ReadPlace.TheVariants as place
use Rattle.fit_rules.specs.declared.spots.Spot.{Spot}
use Rattle.fit_rules.specs.Candidates.{tuples, write_choices}
use Rattle.fit_rules.specs.Rules.{writes_placed, lanes_stand}
use Rattle.fit_rules.specs.Standing.{read_stands, first_ride}

-- one of the groups, whose numbers are counted from n, passes a test of its number
abbrev pub some_group : (ℕ → Bool) → ℕ → List Group → Bool
some_group test n [] = false
some_group test n (g ∷ gs) = test n || some_group test (n + 1) gs

-- the name of the write, where there is one, passes a test of places
abbrev pub some_ride : (ReadPlace → Bool) → Option ℕ → Bool
some_ride test None = false
some_ride test (Some w) = test (place.Ride w)

-- a read has a place: a group, or the name of the first write at which it can stand
abbrev pub has_place : Variant → Spot → List WrPort → List ℕ → ℕ → RdPort → Bool
has_place v s writes groups n r =
    some_group (λ g. read_stands v s writes groups n r (place.Group g)) 0 v.groups || some_ride (read_stands v s writes groups n r) (first_ride v r 0 writes groups)

abbrev pub have_places : Variant → Spot → List WrPort → List ℕ → ℕ → List RdPort → Bool
have_places v s writes groups n [] = true
have_places v s writes groups n (r ∷ rs) = has_place v s writes groups n r && have_places v s writes groups (n + 1) rs

-- the writes stand in these groups, and each read, taken by itself, has a place beside them
abbrev pub opens : Mem → Variant → Spot → List ℕ → Bool
opens m v s groups = writes_placed m v s groups && (lanes_stand m v s groups && have_places v s m.writes groups 0 m.reads)

abbrev pub or_opens : Mem → Variant → Spot → Bool → List ℕ → Bool
or_opens m v s before groups = before || opens m v s groups

-- so it is for some groups of the writes
abbrev pub is_open : Mem → Variant → Spot → Bool
is_open m v s = fold (or_opens m v s) false (tuples (write_choices m v))
