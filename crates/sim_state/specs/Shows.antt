-- What a slot of a RAM cell shows at its outputs.
use Rattle.std.specs.Prelude.{◌≡◌, ℕ, ◌<◌, ◌≤◌, Bool, List, length, Some, slice_get}
use Rattle.net_core.specs.declared.rams.RamCell.{RamCell}
use Rattle.net_core.specs.Ram.{Slot, slots_of, slot_width}
use Rattle.net_core.specs.Values.{Valuation, bit_at}
use Rattle.ram_step.specs.declared.picks.PickKey.{PickKey}
use Rattle.ram_step.specs.States.{RamLook, shown_bit}

-- the slot is at least so wide
abbrev pub IsAsWide : RamLook → RamCell → ℕ → ℕ → Type 0
IsAsWide a cell i width = (s : Slot) → slice_get (slots_of a.variant cell) i ≡ Some s → width ≤ slot_width a.variant s

-- these bits are what the slot shows from its low place on
abbrev pub ShowsSlot : RamLook → RamCell → Valuation → PickKey → ℕ → List Bool → Type 0
ShowsSlot a cell v key i out =
    (s : Slot) → slice_get (slots_of a.variant cell) i ≡ Some s → (k : ℕ) → k < length out → bit_at out k ≡ shown_bit a v key s k
