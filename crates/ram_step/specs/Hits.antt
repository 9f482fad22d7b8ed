-- The hits of a moment, packed: for each slot that is active the row that it writes to, and which bits of it.
use Rattle.std.specs.Prelude.{ℕ, ◌+◌, ◌-◌, ◌/◌, ◌<◌, Bool, cond, ◌&&◌, List, map, Option, Some, None, nat_eq, nat_le, nat_lt}
use Rattle.lib_core.specs.declared.library.Variant.{Variant}
use Rattle.lib_core.specs.Rams.{lane_width}
use Rattle.net_core.specs.Values.{Valuation}
use Rattle.net_core.specs.Ram.{Slot, lane_enabled, slot_width}
use Rattle.row_store.specs.Limbs.{bit_in}
use Rattle.ram_step.specs.declared.hits.Hit.{Hit}

-- the bit that a slot puts there, if it reaches it
abbrev pub hit_bit : {limbs : ℕ} → ℕ → ℕ → Option (Hit limbs) → Option Bool
hit_bit word k None = None
hit_bit word k (Some h) = cond (nat_eq h.row word && bit_in h.mask k) (Some (bit_in h.value k)) None

abbrev pub hit_bits : {limbs : ℕ} → List (Option (Hit limbs)) → ℕ → ℕ → List (Option Bool)
hit_bits hits word k = map (hit_bit word k) hits

-- the row is one that there is
abbrev pub InRow : {limbs : ℕ} → ℕ → Option (Hit limbs) → Type 0
InRow rows None = Unit {0}
InRow rows (Some h) = h.row < rows

-- an active slot reaches a bit of the row among so many from a place on
abbrev pub lane_bit : Variant → Valuation → Slot → ℕ → ℕ → ℕ → Bool
lane_bit x v s from count k = (nat_le from k && nat_lt k (from + count)) && lane_enabled v s ((k - from) / lane_width x.byte (slot_width x s))
