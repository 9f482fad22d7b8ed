use Rattle.std.proofs.Common.{◌≡◌, ◌+◌, ◌≤◌, drop, count_by}
use Rattle.fit_rules.specs.Shape.{in_group}
use Rattle.plan_report.proofs.ports.times_in_group.Given as goal

abbrev pub invariant-loop-place : goal.invariant-loop-place
invariant-loop-place l = (l.times ≤ l.place-index) × (l.times + count_by (in_group l.group) (drop l.place-index l.places) ≡ count_by (in_group l.group) l.places)
