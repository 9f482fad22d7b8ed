use Rattle.std.proofs.Common.{◌≡◌, ℕ, ◌<◌, ◌≤◌, length, [], Some, get_or}
use Rattle.std.specs.Prelude.{slice_get}
use Rattle.net_core.specs.Ram.{Slot}
use Rattle.ram_step.specs.Moments.{valuation}
use Rattle.ram_step.specs.Steps.{IsKept}
use Rattle.ram_step.proofs.steps.keep_all.Given as goal

abbrev pub invariant-loop-number : goal.invariant-loop-number
invariant-loop-number g l =
    (length l.kept ≡ length l.initial.kept)
    × ((i : ℕ) (s : Slot) → i < l.number → slice_get l.ports.all i ≡ Some s → IsKept l.ports (valuation l.values) l.event l.rows l.key s i l.initial.kept l.kept)
    × ((i : ℕ) → l.number ≤ i → get_or l.kept i [] ≡ get_or l.initial.kept i [])
