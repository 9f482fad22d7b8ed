-- Which value is taken where a bit may have any, by the number of the bit.
use Rattle.std.specs.Prelude.{ℕ, Bool, true, false}
use Rattle.lib_core.specs.declared.library.Tri.{Tri}
use Rattle.lib_core.specs.declared.library.Tri.TheVariants.{Zero, One, Any}
use Rattle.lib_core.specs.Picks.{picked}
use Rattle.ram_step.specs.declared.picks.PickKey.{PickKey}

abbrev pub taken : PickKey → ℕ → Tri → Bool
taken key number Zero = false
taken key number One = true
taken key number Any = picked key.seed key.event key.cell number
