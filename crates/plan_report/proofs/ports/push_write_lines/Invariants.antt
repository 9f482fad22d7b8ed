use Rattle.std.proofs.Common.{◌≡◌, ◌++◌, drop}
use Rattle.plan_report.specs.Report.{write_lines}
use Rattle.plan_report.proofs.ports.push_write_lines.Given as goal

abbrev pub invariant-loop-at : goal.invariant-loop-at
invariant-loop-at l = l.text.items ++ write_lines l.variant l.groups l.at (drop l.at l.groups) ≡ l.initial.text.items ++ write_lines l.variant l.groups 0 l.groups
