use Rattle.std.proofs.Common.{◌≡◌, ℕ, ◌<◌, ◌≤◌, Some, length}
use Rattle.std.specs.Prelude.{slice_get}
use Rattle.net_loops.specs.Walks.{Resting}
use Rattle.net_loops.proofs.levels.levels_by.Given as goal

abbrev pub invariant-loop-level : goal.invariant-loop-level
invariant-loop-level l =
    ((now : ℕ) × (now ≤ l.level) × (now < 4294967295) × Resting l.turned 4294967295 now l.walk.labels.items l.walk.left.items l.walk.stack.items l.walk.done.items)
    × ((a i : ℕ) → slice_get l.order.items a ≡ Some i → i < length l.turned)
