use Rattle.std.proofs.Common.{◌≡◌, ◌++◌, length}
use Rattle.plan_report.specs.Report.{mems_text, PlansFit}
use Rattle.plan_report.proofs.report.push_mems.Given as goal

abbrev pub invariant-loop-rest : goal.invariant-loop-rest
invariant-loop-rest l = (l.text.items ++ mems_text l.lib l.owner l.rest l.left ≡ l.initial.text.items ++ mems_text l.lib l.owner l.mems l.plans) × PlansFit l.lib l.rest l.left

abbrev pub decreases-loop-rest : goal.decreases-loop-rest
decreases-loop-rest l = length l.rest
