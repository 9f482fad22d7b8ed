use Rattle.std.proofs.Common.{◌≡◌, ℕ, length}
use Rattle.net_core.specs.Search.{Leads}
use Rattle.net_loops.proofs.rows.empty_rows.Given as goal

abbrev pub invariant-loop : goal.invariant-loop
invariant-loop l = (length l.rows.items ≡ l.counter) × ((n j : ℕ) → Leads l.rows.items n j → ⊥)
