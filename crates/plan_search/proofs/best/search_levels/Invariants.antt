use Rattle.std.proofs.Common.{◌≡◌}
use Rattle.std.specs.Prelude.{fold}
use Rattle.fit_rules.specs.Candidates.{below}
use Rattle.plan_search.specs.Rams.{at_level}
use Rattle.plan_search.proofs.best.search_levels.Given as goal

abbrev pub invariant-loop-level : goal.invariant-loop-level
invariant-loop-level l = l.best ≡ fold (at_level l.job l.variant l.ram l.at l.fold) l.initial.best (below l.level)
