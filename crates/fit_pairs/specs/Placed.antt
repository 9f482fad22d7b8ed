-- Ports of a memory in the groups of a variant. A list of writes goes with the list of their groups' numbers.
use Rattle.std.specs.Prelude.{ℕ, ◌+◌, Bool, false, ◌||◌, cond, List, [], ◌∷◌, Some, None, slice_get, nat_eq}
use Rattle.lib_core.specs.declared.library.Group.{Group}
use Rattle.lib_core.specs.declared.library.Variant.{Variant}
use Rattle.net_core.specs.declared.mems.RdPort.{RdPort}
use Rattle.net_core.specs.declared.mems.WrPort.{WrPort}
use Rattle.geom_core.specs.declared.candidates.ReadPlace.{ReadPlace}
use Rattle.geom_core.specs.declared.candidates.ReadPlace.TheVariants as place
use Rattle.fit_pairs.specs.declared.placed.PlacedRead.{PlacedRead}
use Rattle.fit_pairs.specs.declared.placed.PlacedWrite.{PlacedWrite}

-- a read, its place, and the group in which it stands; kind is the group itself
pub record Reader : Type 0 where
  pub number : ℕ
  pub port : RdPort
  pub place : ReadPlace
  pub group : ℕ
  pub kind : Group

-- a write and its group
pub record Writer : Type 0 where
  pub number : ℕ
  pub port : WrPort
  pub group : ℕ
  pub kind : Group

abbrev pub reader_of : PlacedRead → Reader
reader_of r = record { number = r.number; port = r.port.now; place = r.place; group = r.group; kind = r.kind.now }

abbrev pub writer_of : PlacedWrite → Writer
writer_of w = record { number = w.number; port = w.port.now; group = w.group; kind = w.kind.now }

-- the read stands at the name of this write
abbrev pub is_ridden : ReadPlace → ℕ → Bool
is_ridden (place.Group n) w = false
is_ridden (place.Ride n) w = nat_eq n w

-- a write has a property in its group, which the variant has
abbrev pub writer_has : Variant → (Writer → Bool) → ℕ → WrPort → ℕ → Bool
writer_has v test number w g = elim (slice_get v.groups g) as (λ _. Bool) [ None ↦ false | Some k ↦ test (record { number = number; port = w; group = g; kind = k }) ]

-- one of the writes, counted from a number, has a property
abbrev pub some_write : Variant → (Writer → Bool) → ℕ → List WrPort → List ℕ → Bool
some_write v test number [] gs = false
some_write v test number (w ∷ ws) [] = false
some_write v test number (w ∷ ws) (g ∷ gs) = writer_has v test number w g || some_write v test (number + 1) ws gs

-- how many of the writes have a property
abbrev pub count_writes : Variant → (Writer → Bool) → ℕ → List WrPort → List ℕ → ℕ
count_writes v test number [] gs = 0
count_writes v test number (w ∷ ws) [] = 0
count_writes v test number (w ∷ ws) (g ∷ gs) = cond (writer_has v test number w g) 1 0 + count_writes v test (number + 1) ws gs
