-- What a candidate at a spot costs at least, by the bits of a row alone.
use Rattle.std.specs.Prelude.{ℕ, ◌+◌, ◌*◌, Bool, ◌&&◌, nat_le, Option}
use Rattle.std.specs.Int.{div_ceil}
use Rattle.lib_core.specs.declared.library.Variant.{Variant}
use Rattle.lib_core.specs.Rams.{width_at}
use Rattle.net_core.specs.declared.mems.Mem.{Mem}
use Rattle.geom_core.specs.Layout.{row_bits}
use Rattle.fit_rules.specs.declared.plans.Plan.{Plan}
use Rattle.fit_rules.specs.declared.spots.Spot.{Spot}
use Rattle.fit_rules.specs.Shape.{rows}
use Rattle.fit_cost.specs.Points.{ports_points}
use Rattle.plan_search.specs.Choice.{beats}

abbrev pub fewest_columns : Mem → Variant → Spot → ℕ
fewest_columns m v s = div_ceil (row_bits m s.fold) (width_at v.widths s.level)

abbrev pub fewest_cells : Mem → Variant → Spot → ℕ
fewest_cells m v s = rows m v s * fewest_columns m v s

abbrev pub fewest_points : Mem → Variant → Spot → ℕ
fewest_points m v s = 16 * v.cost * fewest_cells m v s + ports_points m v s

-- a candidate at the spot may fit and beat the best
abbrev pub may_win : Mem → Variant → Spot → Option Plan → Bool
may_win m v s best = nat_le (fewest_cells m v s) 4096 && beats (fewest_points m v s) best
