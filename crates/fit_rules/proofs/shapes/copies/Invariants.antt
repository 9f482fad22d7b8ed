use Rattle.std.proofs.Common.{◌≡◌, ◌≤◌, max, take, drop}
use Rattle.fit_rules.specs.Shape.{copies, copies_after}
use Rattle.fit_rules.proofs.shapes.copies.Given as goal

abbrev pub invariant-loop-at : goal.invariant-loop-at
invariant-loop-at l = (1 ≤ l.most) × (max l.most (copies_after l.variant l.groups (take l.at l.places) (drop l.at l.places)) ≡ copies l.variant l.groups l.places)
