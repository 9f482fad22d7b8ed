use Rattle.std.proofs.Common.{◌≡◌, ◌+◌, ◌*◌, ◌≤◌, drop}
use Rattle.std.specs.List.{sum_by}
use Rattle.fit_cost.specs.Points.{row_points}
use Rattle.fit_cost.proofs.sums.rows_points.Given as goal

abbrev pub invariant-loop-read : goal.invariant-loop-read
invariant-loop-read l = (l.sum ≤ 4398314946560 * l.read-index) × (l.sum + sum_by (row_points l.mem l.variant l.spot) (drop l.read-index l.mem.reads) ≡ sum_by (row_points l.mem l.variant l.spot) l.mem.reads)
