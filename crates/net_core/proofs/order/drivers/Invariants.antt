use Rattle.std.proofs.Common.{◌≡◌, ℕ, ◌<◌, length, Some}
use Rattle.std.specs.Prelude.{◌↔◌, slice_get}
use Rattle.net_core.specs.declared.nodes.NodeNets.{NodeNets}
use Rattle.net_core.specs.Search.{Leads}
use Rattle.net_core.specs.Wiring.{rows}
use Rattle.net_core.proofs.order.drivers.Given as goal

abbrev pub invariant-loop-node : goal.invariant-loop-node
invariant-loop-node l =
    (length l.table.items ≡ l.fn.nets)
    × ((n j : ℕ) → Leads (rows l.table.items) n j ↔ ((j < l.node) × ((p : NodeNets) × (k : ℕ) × (slice_get l.nodes j ≡ Some p) × (slice_get p.drives k ≡ Some n))))
