use Rattle.std.proofs.Common.{◌≡◌, ◌+◌, ◌*◌, ◌≤◌, drop}
use Rattle.std.specs.List.{sum_by}
use Rattle.fit_cost.specs.Points.{looking_points}
use Rattle.fit_cost.proofs.sums.all_looking_points.Given as goal

abbrev pub invariant-loop-read : goal.invariant-loop-read
invariant-loop-read l = (l.sum ≤ 50331776 * l.read-index) × (l.sum + sum_by (looking_points l.mem) (drop l.read-index l.mem.reads) ≡ sum_by (looking_points l.mem) l.mem.reads)
