-- What a check of a module answers: that nothing is broken, or the first breach with the name that it shows.
use Rattle.std.specs.Prelude.{◌≡◌, ℕ, List, [], ◌∷◌, Option, Some, None, Result, Ok, Err}
use Rattle.net_wires.specs.declared.breach.BuildCode.{BuildCode}
use Rattle.net_checks.specs.declared.fault.ModuleFault.{ModuleFault}
use Rattle.net_checks.specs.declared.fault.ModuleHalt.{ModuleHalt}
use Rattle.net_checks.specs.declared.fault.ModuleHalt.TheVariants as halt

-- a breach that is no limit
abbrev pub broken : BuildCode → List ℕ → ModuleFault
broken c n = record { code = c; name = n; seen = 0 }

-- why a check may stop: memory ran out, or this is the first of the faults
abbrev pub Halts : ModuleHalt → List ModuleFault → Type 0
Halts halt.Memory fs = Unit {0}
Halts (halt.Broken f) fs = (rest : List ModuleFault) × (fs ≡ f ∷ rest)

-- The answer of a check whose faults these are, in their order: there is none, and P holds of what it found; or it stops, at
-- the first fault or for want of memory.
abbrev pub FindsFirst : {X : Type 0} → Result X ModuleHalt → List ModuleFault → (X → Type 0) → Type 0
FindsFirst (Ok x) fs P = (fs ≡ []) × P x
FindsFirst (Err h) fs P = Halts h fs

-- the name that was found, or else the other
abbrev pub either : Option (List ℕ) → Option (List ℕ) → Option (List ℕ)
either None other = other
either (Some n) other = Some n

-- no name is shown as the empty one
abbrev pub shown : Option (List ℕ) → List ℕ
shown None = []
shown (Some n) = n
