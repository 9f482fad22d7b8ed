-- What follows from a rewriting.
use Rattle.std.specs.Prelude.{◌≡◌, ℕ, List, slice_get}
use Rattle.lib_core.specs.declared.library.Library.{Library}
use Rattle.net_core.specs.declared.mems.Mem.{Mem}
use Rattle.net_core.specs.declared.modules.Module.{Module}
use Rattle.net_core.specs.Ports.{Interface}
use Rattle.rewriting.specs.Keeping.{Lost, either_lost}
use Rattle.rewriting.specs.Known.{IsGuarded, QuietAt}
use Rattle.rewriting.specs.Rewrites.{Room, both_rooms, Rewrites}

-- The laws: two rewritings of one memory, one after the other, are one.
abbrev pub RewritingsCompose : Type 0
RewritingsCompose =
    (lib : Library) (modules : List Interface) (k : ℕ) (x y z : Mem) (lost more : Lost) (room space : Room) (a b c : Module) → Rewrites lib modules k x y lost room a b → Rewrites lib modules k y z more space b c → Rewrites lib modules k x z (either_lost lost more) (both_rooms room space) a c

-- What is known of another memory, which stands as it did, is known of it after the rewriting.
pub record StaysKnown (lib : Library) (i : ℕ) (old new : Module) : Type 0 where
  pub stands : slice_get new.mems i ≡ slice_get old.mems i
  pub guarded : (x : Mem) → IsGuarded lib old x → IsGuarded lib new x
  pub quiet : (x : Mem) (j l : ℕ) → QuietAt lib old x j l → QuietAt lib new x j l

abbrev pub OthersStayKnown : Type 0
OthersStayKnown =
    (lib : Library) (modules : List Interface) (k : ℕ) (x y : Mem) (lost : Lost) (room : Room) (a b : Module) → Rewrites lib modules k x y lost room a b → (i : ℕ) → (i ≡ k → ⊥) → StaysKnown lib i a b
