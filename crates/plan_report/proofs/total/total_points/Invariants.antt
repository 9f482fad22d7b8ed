use Rattle.std.proofs.Common.{◌≡◌, ◌+◌, ◌*◌, ◌≤◌, length}
use Rattle.plan_report.specs.Report.{total_points}
use Rattle.plan_report.proofs.total.total_points.Given as goal

abbrev pub invariant-loop-rest : goal.invariant-loop-rest
invariant-loop-rest l = (l.total + total_points l.rest l.left ≡ total_points l.modules l.plans) × (l.total + length l.left * 18446744073709551615 ≤ length l.plans * 18446744073709551615)

abbrev pub decreases-loop-rest : goal.decreases-loop-rest
decreases-loop-rest l = length l.rest
