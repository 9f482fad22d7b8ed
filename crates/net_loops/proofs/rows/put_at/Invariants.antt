use Rattle.std.proofs.Common.{◌≡◌, ℕ, ◌<◌, length, Some}
use Rattle.std.specs.Prelude.{slice_get}
use Rattle.net_core.specs.Wiring.{AddsDriver}
use Rattle.net_loops.proofs.rows.put_at.Given as goal

abbrev pub invariant-loop-place : goal.invariant-loop-place
invariant-loop-place l =
    (length l.rows.items ≡ length l.fn.rows.items)
    × AddsDriver l.fn.rows.items l.rows.items l.number (λ n. (k : ℕ) × (k < l.place-index) × (slice_get l.places k ≡ Some n))
