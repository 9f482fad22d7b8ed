-- A slot that the code holds in references.
use Rattle.std.specs.Prelude.{◌≡◌, ℕ, ◌+◌}
use Rattle.geom_core.specs.declared.geometry.BasePlace.{BasePlace}
use Rattle.net_core.specs.Ram.{Slot}
use Rattle.ram_step.specs.declared.ports.Port.{Port}

abbrev pub slot_of : Port → Slot
slot_of p = record { number = p.number; group = p.group; kind = p.kind.now; pins = p.pins.now }

-- a bit lies so far above the place where its word begins
pub record BeginsAt (start : BasePlace) (k : ℕ) (at : ℕ × ℕ) : Type 0 where
  pub row : at.0 ≡ start.word
  pub place : at.1 ≡ start.bit + k
