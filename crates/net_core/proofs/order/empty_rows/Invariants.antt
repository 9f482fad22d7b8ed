use Rattle.std.proofs.Common.{◌≡◌, ℕ, length}
use Rattle.net_core.specs.Search.{Leads}
use Rattle.net_core.specs.Wiring.{rows}
use Rattle.net_core.proofs.order.empty_rows.Given as goal

abbrev pub invariant-loop : goal.invariant-loop
invariant-loop l = (length l.table.items ≡ l.counter) × ((n j : ℕ) → Leads (rows l.table.items) n j → ⊥)
