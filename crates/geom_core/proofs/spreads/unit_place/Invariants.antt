use Rattle.std.proofs.Common.{◌≡◌}
use Rattle.geom_core.specs.Layout.{unit_place}
use Rattle.geom_core.proofs.spreads.unit_place.Given as goal

abbrev pub invariant-loop-before : goal.invariant-loop-before
invariant-loop-before l = l.place ≡ unit_place l.mem l.fold l.unit l.before
