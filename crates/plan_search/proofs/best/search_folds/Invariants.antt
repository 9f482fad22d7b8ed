use Rattle.std.proofs.Common.{◌≡◌}
use Rattle.std.specs.Prelude.{fold}
use Rattle.fit_rules.specs.Candidates.{below}
use Rattle.plan_search.specs.Rams.{at_fold}
use Rattle.plan_search.proofs.best.search_folds.Given as goal

abbrev pub invariant-loop-fold : goal.invariant-loop-fold
invariant-loop-fold l = l.best ≡ fold (at_fold l.job l.variant l.ram l.at) l.initial.best (below l.fold)
