-- Which value is taken where a slot may show or keep any.
use Rattle.std.specs.Prelude.{ℕ, ◌+◌, ◌*◌, ◌^◌, Bool, true, false}
use Rattle.lib_core.specs.declared.library.Tri.{Tri}
use Rattle.lib_core.specs.declared.library.Tri.TheVariants.{Zero, One, Any}
use Rattle.lib_core.specs.Picks.{picked}
use Rattle.ram_step.specs.declared.picks.PickKey.{PickKey}

-- the number of a bit of a slot among the bits that are picked
abbrev pub pick_number : ℕ → ℕ → ℕ
pick_number slot k = 2 ^ 32 * (slot + 1) + k

-- the value of a bit that may be undefined
abbrev pub resolved : PickKey → ℕ → ℕ → Tri → Bool
resolved key slot k Zero = false
resolved key slot k One = true
resolved key slot k Any = picked key.seed key.event key.cell (pick_number slot k)

-- the values that read registers start with have an event number of their own
abbrev pub start_key : PickKey → PickKey
start_key key = record { seed = key.seed; event = 4294967295; cell = key.cell }
