use Rattle.std.proofs.Common.{◌≡◌, ◌++◌, drop}
use Rattle.plan_report.specs.Report.{read_lines}
use Rattle.plan_report.proofs.ports.push_read_lines.Given as goal

abbrev pub invariant-loop-at : goal.invariant-loop-at
invariant-loop-at l = l.text.items ++ read_lines l.variant l.groups l.places l.at (drop l.at l.places) ≡ l.initial.text.items ++ read_lines l.variant l.groups l.places 0 l.places
