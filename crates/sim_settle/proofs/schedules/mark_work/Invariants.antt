use Rattle.std.proofs.Common.{◌≡◌, ℕ, length}
use Rattle.net_core.specs.Values.{bit_at}
use Rattle.sim_settle.specs.Marks.{IsUndriven}
use Rattle.sim_settle.proofs.schedules.mark_work.Given as goal

abbrev pub invariant-loop-at : goal.invariant-loop-at
invariant-loop-at l = (length l.marks ≡ length l.initial.marks) × ((n : ℕ) → IsUndriven l.«module» n → bit_at l.marks n ≡ bit_at l.initial.marks n)
