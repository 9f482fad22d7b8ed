use Rattle.std.proofs.Common.{◌≡◌, ◌+◌, ◌*◌, ◌≤◌, drop}
use Rattle.std.specs.List.{sum_by}
use Rattle.fit_cost.specs.Points.{write_points}
use Rattle.fit_cost.proofs.sums.writing_points.Given as goal

abbrev pub invariant-loop-write : goal.invariant-loop-write
invariant-loop-write l = (l.sum ≤ 33554816 * l.write-index) × (l.sum + sum_by (write_points l.mem l.variant l.spot) (drop l.write-index l.mem.writes) ≡ sum_by (write_points l.mem l.variant l.spot) l.mem.writes)
