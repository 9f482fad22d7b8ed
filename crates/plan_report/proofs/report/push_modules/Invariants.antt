use Rattle.std.proofs.Common.{◌≡◌, ◌++◌, length}
use Rattle.plan_report.specs.Report.{modules_text, PlansFit, mems_of}
use Rattle.plan_report.proofs.report.push_modules.Given as goal

abbrev pub invariant-loop-rest : goal.invariant-loop-rest
invariant-loop-rest l = (l.text.items ++ modules_text l.lib l.rest l.left ≡ l.initial.text.items ++ modules_text l.lib l.modules l.plans) × PlansFit l.lib (mems_of l.rest) l.left

abbrev pub decreases-loop-rest : goal.decreases-loop-rest
decreases-loop-rest l = length l.rest
