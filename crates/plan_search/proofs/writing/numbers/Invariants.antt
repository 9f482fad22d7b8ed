use Rattle.std.proofs.Common.{◌≡◌}
use Rattle.fit_rules.specs.Candidates.{below}
use Rattle.plan_search.proofs.writing.numbers.Given as goal

abbrev pub invariant-loop-group : goal.invariant-loop-group
invariant-loop-group l = l.numbers.items ≡ below l.group
