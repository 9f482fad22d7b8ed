-- Nets that are found to be driven by nothing.
use Rattle.std.specs.Prelude.{◌≡◌, ℕ, ◌<◌, Bool, true, false, List, [], ◌∷◌, Some}
use Rattle.net_core.specs.declared.modules.Module.{Module}
use Rattle.net_core.specs.Values.{bit_at}
use Rattle.net_core.specs.Nodes.{Node, Drives}
use Rattle.sim_settle.specs.declared.places.NodePlace.{NodePlace}
use Rattle.sim_settle.specs.Nets.{IsAmong, AreBelow}
use Rattle.sim_settle.specs.Places.{node_at}

-- no node drives the net
abbrev pub IsUndriven : Module → ℕ → Type 0
IsUndriven m n = (at : NodePlace) (p : Node) → node_at m at ≡ Some p → Drives p n → ⊥

-- the nets below a count that are not marked are among these
pub record IsUnmarked (marks : List Bool) (count : ℕ) (nets : List ℕ) : Type 0 where
  pub all : (n : ℕ) → n < count → bit_at marks n ≡ false → IsAmong nets n
  pub within : AreBelow count nets

-- the net, where it is not driven
abbrev pub unmarked_one : ℕ → Bool → List ℕ
unmarked_one net true = []
unmarked_one net false = net ∷ []
