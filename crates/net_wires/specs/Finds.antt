-- What a check answers: that nothing is broken, or the first breach.
use Rattle.std.specs.Prelude.{◌≡◌, ℕ, ◌+◌, List, [], ◌∷◌, ◌++◌, Result, Ok, Err}
use Rattle.net_wires.specs.declared.breach.Breach.{Breach}
use Rattle.net_wires.specs.declared.breach.BuildCode.{BuildCode}
use Rattle.net_wires.specs.declared.breach.BuildCode.TheVariants as code
use Rattle.net_wires.specs.declared.breach.Stop.{Stop}
use Rattle.net_wires.specs.declared.breach.Stop.TheVariants as stop

abbrev pub code_number : BuildCode → ℕ
code_number code.NoWire = 1
code_number code.Range = 2
code_number code.WidthDiffers = 3
code_number code.TwoDrivers = 4
code_number code.UnknownCell = 5
code_number code.MissingParam = 6
code_number code.ClockRoot = 7
code_number code.AsyncWrite = 8
code_number code.CombLoop = 9
code_number code.Inout = 10
code_number code.BadRam = 11
code_number code.Limit = 12
code_number code.Memory = 13

-- a breach that is no limit
abbrev pub breach : BuildCode → Breach
breach c = record { code = c; seen = 0 }

-- why a check may stop: memory ran out, or this is the first of the breaches
abbrev pub Stops : Stop → List Breach → Type 0
Stops stop.Memory bs = Unit {0}
Stops (stop.Broken b) bs = (rest : List Breach) × (bs ≡ b ∷ rest)

-- The answer of a check whose breaches these are, in their order: nothing is broken, and P holds of what it found; or it
-- stops, at the first breach or for want of memory.
abbrev pub Finds : {X : Type 0} → Result X Stop → List Breach → (X → Type 0) → Type 0
Finds (Ok x) bs P = (bs ≡ []) × P x
Finds (Err s) bs P = Stops s bs

-- what each item breaks, in order; items are counted from i
abbrev pub each_from : {X B : Type 0} → (ℕ → X → List B) → ℕ → List X → List B
each_from f i [] = []
each_from f i (x ∷ xs) = f i x ++ each_from f (i + 1) xs
