use Rattle.std.proofs.Common.{◌≡◌, ℕ, ◌+◌, ◌*◌, ◌<◌, ◌&&◌, nat_lt, cond, length}
use Rattle.lib_core.specs.Rams.{tri_at}
use Rattle.net_core.specs.Memory.{is_hit}
use Rattle.ram_step.specs.Moments.{valuation}
use Rattle.sim_cells.specs.Writes.{own_hit, won_at}
use Rattle.sim_cells.proofs.hits.write_port.Given as goal

abbrev pub invariant-loop-lane : goal.invariant-loop-lane
invariant-loop-lane l =
    (length l.words ≡ length l.initial.words)
    × (length l.hits ≡ length l.initial.hits)
    × ((p : ℕ) → p < length l.words → tri_at l.words p ≡ cond (is_hit (own_hit l.mem (valuation l.values) p l.bases l.own) && nat_lt (l.mem.offset * l.mem.width + p) (l.base + l.lane)) (won_at l.mem (valuation l.values) p l.bases) (tri_at l.initial.words p))
