use Rattle.std.proofs.Common.{◌≡◌, ℕ, ◌<◌, length, Some}
use Rattle.std.specs.Prelude.{slice_get}
use Rattle.net_core.specs.Wiring.{rows, AddsDriver}
use Rattle.net_core.proofs.order.add_driver.Given as goal

abbrev pub invariant-loop-net : goal.invariant-loop-net
invariant-loop-net l =
    (length l.table.items ≡ length l.fn.table.items)
    × AddsDriver (rows l.fn.table.items) (rows l.table.items) l.node (λ n. (k : ℕ) × (k < l.net-index) × (slice_get l.nets k ≡ Some n))
