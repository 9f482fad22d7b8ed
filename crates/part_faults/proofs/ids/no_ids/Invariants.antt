use Rattle.std.proofs.Common.{◌≡◌, ℕ, [], length}
use Rattle.part_faults.specs.Ids.{ids_at}
use Rattle.part_faults.proofs.ids.no_ids.Given as goal

abbrev pub invariant-loop : goal.invariant-loop
invariant-loop l = (length l.rows.items ≡ l.counter) × ((k : ℕ) → ids_at l.rows.items k ≡ [])
