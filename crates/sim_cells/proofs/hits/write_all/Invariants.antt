use Rattle.std.proofs.Common.{◌≡◌, ℕ, ◌<◌, cond, take, length}
use Rattle.lib_core.specs.Rams.{tri_at}
use Rattle.net_core.specs.Memory.{any_hit}
use Rattle.ram_step.specs.Moments.{valuation}
use Rattle.sim_cells.specs.Places.{base_hits}
use Rattle.sim_cells.specs.Writes.{won_at}
use Rattle.sim_cells.proofs.hits.write_all.Given as goal

abbrev pub invariant-loop-own : goal.invariant-loop-own
invariant-loop-own l =
    (length l.words ≡ length l.initial.words)
    × (length l.hits ≡ length l.initial.hits)
    × ((p : ℕ) → p < length l.words → tri_at l.words p ≡ cond (any_hit (take l.own (base_hits l.mem (valuation l.values) p l.mem.writes l.bases))) (won_at l.mem (valuation l.values) p l.bases) (tri_at l.initial.words p))
