-- The parts of a step, slot by slot.
use Rattle.std.specs.Prelude.{◌≡◌, ℕ, Bool, List, [], Option, Some, length, slice_get, slice_index_or}
use Rattle.lib_core.specs.declared.library.Tri.{Tri}
use Rattle.lib_core.specs.declared.library.Variant.{Variant}
use Rattle.net_core.specs.declared.bits.Event.{Event}
use Rattle.net_core.specs.Values.{Valuation, bit_at}
use Rattle.net_core.specs.Ram.{Slot}
use Rattle.ram_step.specs.declared.hits.Hit.{Hit}
use Rattle.ram_step.specs.declared.picks.PickKey.{PickKey}
use Rattle.ram_step.specs.Hits.{InRow}
use Rattle.ram_step.specs.Picks.{resolved}
use Rattle.ram_step.specs.Owners.{SlotList}
use Rattle.ram_step.specs.Nexts.{next_of}
use Rattle.ram_step.specs.States.{kept_width, kept_by}

-- each hit is in a row that there is
abbrev pub AreRows : {limbs : ℕ} → ℕ → List (Option (Hit limbs)) → Type 0
AreRows {limbs = limbs} rows hits = (i : ℕ) (h : Option (Hit limbs)) → slice_get hits i ≡ Some h → InRow rows h

-- what is kept at a place is that of the slot
abbrev pub KeptAt : Variant → Slot → List (List Bool) → ℕ → Type 0
KeptAt x s kept i = length (slice_index_or kept i []) ≡ kept_width x s

-- what is kept of the slot at a place after the event
abbrev pub IsKept : SlotList → Valuation → Event → List (List Tri) → PickKey → Slot → ℕ → List (List Bool) → List (List Bool) → Type 0
IsKept slots v e rows key s i old new =
    slice_index_or new i [] ≡ kept_by slots.variant s (λ k. resolved key s.number k (next_of slots v e rows s (bit_at (slice_index_or old i [])) k))
