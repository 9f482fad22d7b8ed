use Rattle.std.proofs.Common.{◌≡◌, ℕ, ◌<◌, length, Some, None, get_or}
use Rattle.std.specs.Prelude.{slice_get}
use Rattle.lib_core.specs.Rams.{last_words}
use Rattle.net_core.specs.Ram.{Slot, slot_hit}
use Rattle.ram_step.specs.Hits.{hit_bit, InRow}
use Rattle.ram_step.specs.Moments.{inputs_alone, moment_of, valuation}
use Rattle.ram_step.proofs.steps.find_hits.Given as goal

abbrev pub invariant-loop-number : goal.invariant-loop-number
invariant-loop-number g l =
    (length l.hits ≡ length l.ports.all)
    × ((i : ℕ) (s : Slot) → i < l.number → slice_get l.ports.all i ≡ Some s → (word k : ℕ) → hit_bit word k (get_or l.hits i None) ≡ slot_hit (inputs_alone l.event) l.ports.variant (moment_of l.event) (valuation l.values) word k s)
    × ((i : ℕ) → i < l.number → InRow (last_words l.ports.variant) (get_or l.hits i None))
