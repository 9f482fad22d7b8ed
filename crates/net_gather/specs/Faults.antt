-- The first breach of a module, with the item at which it stands. Items are counted from 0.
use Rattle.std.specs.Prelude.{◌≡◌, ℕ, ◌+◌, List, [], ◌∷◌, Result, Ok, Err, if◌then◌else◌, nat_lt}
use Rattle.net_wires.specs.declared.breach.Breach.{Breach}
use Rattle.net_wires.specs.declared.breach.BuildCode.TheVariants as code
use Rattle.net_wires.specs.declared.breach.Stop.{Stop}
use Rattle.net_wires.specs.declared.breach.Stop.TheVariants as stop
use Rattle.net_gather.specs.declared.fault.Fault.{Fault}
use Rattle.net_gather.specs.declared.fault.Halt.{Halt}
use Rattle.net_gather.specs.declared.fault.Halt.TheVariants as halt

-- these breaches stand at this item
abbrev pub at : ℕ → List Breach → List Fault
at i [] = []
at i (b ∷ bs) = record { item = i; breach = b } ∷ at i bs

abbrev pub halt_at : ℕ → Stop → Halt
halt_at i stop.Memory = halt.Memory
halt_at i (stop.Broken b) = halt.Broken (record { item = i; breach = b })

-- why a check may stop: memory ran out, or this is the first of the faults
abbrev pub Halts : Halt → List Fault → Type 0
Halts halt.Memory fs = Unit {0}
Halts (halt.Broken f) fs = (rest : List Fault) × (fs ≡ f ∷ rest)

-- The answer of a check whose faults these are, in their order: there is none, and P holds of what it found; or it stops, at
-- the first fault or for want of memory.
abbrev pub FindsFirst : {X : Type 0} → Result X Halt → List Fault → (X → Type 0) → Type 0
FindsFirst (Ok x) fs P = (fs ≡ []) × P x
FindsFirst (Err h) fs P = Halts h fs

-- more than a limit was found
abbrev pub limit_breach : ℕ → Breach
limit_breach limit = record { code = code.Limit; seen = limit + 1 }

unfoldable pub limit_breaches : ℕ → ℕ → List Breach
limit_breaches limit found = if nat_lt limit found then limit_breach limit ∷ [] else []
