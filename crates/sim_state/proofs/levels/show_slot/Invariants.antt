use Rattle.std.proofs.Common.{◌≡◌, ℕ, ◌<◌, Some}
use Rattle.std.specs.Prelude.{slice_get}
use Rattle.net_core.specs.Ram.{Slot, slots_of}
use Rattle.net_core.specs.Values.{bit_at}
use Rattle.ram_step.specs.Moments.{valuation}
use Rattle.ram_step.specs.States.{shown_bit}
use Rattle.sim_state.proofs.levels.show_slot.Given as goal

abbrev pub invariant-loop-place : goal.invariant-loop-place
invariant-loop-place g l = (s : Slot) → slice_get (slots_of l.state.variant l.cell) l.slot ≡ Some s → (k : ℕ) → k < l.place → bit_at l.out k ≡ shown_bit l.state (valuation l.values) l.picks s k
