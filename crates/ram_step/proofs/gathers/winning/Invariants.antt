use Rattle.std.proofs.Common.{◌≡◌, ℕ, drop}
use Rattle.net_core.specs.Ram.{slot_winner}
use Rattle.ram_step.specs.Hits.{hit_bits}
use Rattle.ram_step.specs.Gathers.{known_bit, or_else}
use Rattle.ram_step.proofs.gathers.winning.Given as goal

abbrev pub invariant-loop-number : goal.invariant-loop-number
invariant-loop-number g l = (k : ℕ) → or_else (known_bit l.won.values l.won.known k) (slot_winner l.ports.all (hit_bits l.hits l.row k) (drop l.number l.ports.all) (drop l.number (hit_bits l.hits l.row k))) ≡ slot_winner l.ports.all (hit_bits l.hits l.row k) l.ports.all (hit_bits l.hits l.row k)
