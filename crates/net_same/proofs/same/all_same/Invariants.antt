use Rattle.std.proofs.Common.{length}
use Rattle.std.specs.List.{AllByRecursion}
use Rattle.net_same.specs.Own.{NetsAreOwn}
use Rattle.net_same.specs.Same.{AllSame}
use Rattle.net_same.proofs.same.all_same.Given as goal

abbrev pub invariant-loop-lefts : goal.invariant-loop-lefts
invariant-loop-lefts l = record {
  sound : AllSame l.lefts l.rights → AllSame l.olds l.news;
  same : AllSame l.olds l.news → AllSame l.lefts l.rights;
  olds_own : AllByRecursion NetsAreOwn l.olds → AllByRecursion NetsAreOwn l.lefts;
  news_own : AllByRecursion NetsAreOwn l.news → AllByRecursion NetsAreOwn l.rights;
}

abbrev pub decreases-loop-lefts : goal.decreases-loop-lefts
decreases-loop-lefts l = length l.lefts
