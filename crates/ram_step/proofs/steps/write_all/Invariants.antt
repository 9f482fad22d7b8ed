use Rattle.std.proofs.Common.{◌≡◌, ℕ, ◌<◌, cond, take}
use Rattle.lib_core.specs.Rams.{last_width, last_words}
use Rattle.net_core.specs.Memory.{any_hit, tri_or_any}
use Rattle.net_core.specs.Ram.{slot_winner}
use Rattle.row_store.specs.Rows.{bit_of}
use Rattle.ram_step.specs.Hits.{hit_bits}
use Rattle.ram_step.specs.Nexts.{AreWords}
use Rattle.ram_step.proofs.steps.write_all.Given as goal

abbrev pub invariant-loop-number : goal.invariant-loop-number
invariant-loop-number g l =
    (AreWords l.ports.variant l.rows)
    × ((word k : ℕ) → word < last_words l.ports.variant → k < last_width l.ports.variant → bit_of l.rows word k ≡ cond (any_hit (take l.number (hit_bits l.hits word k))) (tri_or_any (slot_winner l.ports.all (hit_bits l.hits word k) l.ports.all (hit_bits l.hits word k))) (bit_of l.initial.rows word k))
