use Rattle.std.proofs.Common.{◌≡◌, ◌*◌, ◌≤◌, take}
use Rattle.plan_report.specs.Report.{points_of}
use Rattle.plan_report.proofs.total.points_of.Given as goal

abbrev pub invariant-loop-plan : goal.invariant-loop-plan
invariant-loop-plan l = (l.sum ≡ points_of (take l.plan-index l.plans)) × (l.sum ≤ l.plan-index * 18446744073709551615)
