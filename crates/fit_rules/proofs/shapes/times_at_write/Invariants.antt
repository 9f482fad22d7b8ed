use Rattle.std.proofs.Common.{◌≡◌, ◌+◌, ◌≤◌, drop, count_by}
use Rattle.fit_rules.specs.Shape.{at_write}
use Rattle.fit_rules.proofs.shapes.times_at_write.Given as goal

abbrev pub invariant-loop-place : goal.invariant-loop-place
invariant-loop-place l = (l.times ≤ l.place-index) × (l.times + count_by (at_write l.write) (drop l.place-index l.places) ≡ count_by (at_write l.write) l.places)
