use Rattle.std.proofs.Common.{◌≡◌, map}
use Rattle.geom_core.specs.declared.candidates.ReadPlace.TheVariants as place
use Rattle.fit_rules.specs.Candidates.{below}
use Rattle.plan_search.proofs.writing.places.Given as goal

abbrev pub invariant-loop-group : goal.invariant-loop-group
invariant-loop-group l = l.places.items ≡ map place.Group (below l.group)
