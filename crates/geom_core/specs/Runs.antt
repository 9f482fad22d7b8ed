-- Runs of equal bits: a run begins at the first bit, and at each bit that differs from the one before it.
use Rattle.std.specs.Prelude.{ℕ, ◌+◌, Bool, true, cond, not, List, [], ◌∷◌, Option, Some, None}
use Rattle.net_core.specs.declared.bits.Bit.{Bit}
use Rattle.net_core.specs.Ports.{same_bit}

abbrev pub begins_run : Option Bit → Bit → Bool
begins_run None b = true
begins_run (Some a) b = not (same_bit a b)

-- how many runs begin in a list, after what stands before it
abbrev pub runs_after : Option Bit → List Bit → ℕ
runs_after before [] = 0
runs_after before (b ∷ bs) = cond (begins_run before b) 1 0 + runs_after (Some b) bs

abbrev pub runs_of : List Bit → ℕ
runs_of bits = runs_after None bits
