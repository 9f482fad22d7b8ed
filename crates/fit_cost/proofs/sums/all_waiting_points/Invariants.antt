use Rattle.std.proofs.Common.{◌≡◌, ◌+◌, ◌*◌, ◌≤◌, drop}
use Rattle.std.specs.List.{sum_by}
use Rattle.fit_cost.specs.Points.{waiting_points}
use Rattle.fit_cost.proofs.sums.all_waiting_points.Given as goal

abbrev pub invariant-loop-write : goal.invariant-loop-write
invariant-loop-write l = (l.sum ≤ 8388640 * l.write-index) × (l.sum + sum_by (waiting_points l.mem) (drop l.write-index l.mem.writes) ≡ sum_by (waiting_points l.mem) l.mem.writes)
