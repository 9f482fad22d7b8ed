use Rattle.std.proofs.Common.{◌≡◌, ℕ, ◌<◌, ◌≤◌, length, Some}
use Rattle.std.specs.Prelude.{slice_get}
use Rattle.net_core.specs.Nodes.{Node}
use Rattle.sim_settle.specs.declared.places.NodePlace.{NodePlace}
use Rattle.sim_settle.specs.Places.{node_at}
use Rattle.sim_settle.proofs.schedules.width.Given as goal

abbrev pub invariant-loop-at : goal.invariant-loop-at
invariant-loop-at l = (a : ℕ) (at : NodePlace) (p : Node) → a < l.at-index → slice_get l.work a ≡ Some at → node_at l.«module» at ≡ Some p → length p.drives ≤ l.width
