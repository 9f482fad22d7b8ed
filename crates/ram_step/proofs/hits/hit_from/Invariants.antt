use Rattle.std.proofs.Common.{◌≡◌, ℕ, ◌-◌, ◌&&◌}
use Rattle.net_core.specs.Values.{bit_at, values_of}
use Rattle.row_store.specs.Limbs.{bit_in}
use Rattle.ram_step.specs.Ports.{slot_of}
use Rattle.ram_step.specs.Moments.{valuation}
use Rattle.ram_step.specs.Hits.{lane_bit}
use Rattle.ram_step.proofs.hits.hit_from.Given as goal

abbrev pub invariant-loop-place : goal.invariant-loop-place
invariant-loop-place g l =
    ((k : ℕ) → bit_in l.mask k ≡ lane_bit l.ports.variant (valuation l.values) (slot_of l.port) l.from l.place k)
    × ((k : ℕ) → bit_in l.value k ≡ (bit_in l.mask k && bit_at (values_of (valuation l.values) l.port.pins.now.value) (k - l.from)))
