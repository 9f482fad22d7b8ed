use Rattle.std.proofs.Common.{◌≡◌, ℕ, ◌||◌, drop}
use Rattle.row_store.specs.Limbs.{bit_in}
use Rattle.ram_step.specs.Ports.{slot_of}
use Rattle.ram_step.specs.Hits.{hit_bits}
use Rattle.ram_step.specs.Gathers.{some_hit}
use Rattle.ram_step.proofs.gathers.gather.Given as goal

abbrev pub invariant-loop-number : goal.invariant-loop-number
invariant-loop-number g l = (k : ℕ) → (bit_in l.bits k || some_hit l.choice (slot_of l.own) (drop l.number l.ports.all) (drop l.number (hit_bits l.hits l.row k))) ≡ some_hit l.choice (slot_of l.own) l.ports.all (hit_bits l.hits l.row k)
