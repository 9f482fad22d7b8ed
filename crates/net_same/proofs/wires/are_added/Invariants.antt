use Rattle.std.proofs.Common.{length}
use Rattle.std.specs.List.{AllByRecursion}
use Rattle.net_same.specs.Same.{IsAdded}
use Rattle.net_same.proofs.wires.are_added.Given as goal

abbrev pub invariant-loop-rest : goal.invariant-loop-rest
invariant-loop-rest l = record {
  sound : AllByRecursion IsAdded l.rest → AllByRecursion IsAdded l.wires;
  complete : AllByRecursion IsAdded l.wires → AllByRecursion IsAdded l.rest;
}

abbrev pub decreases-loop-rest : goal.decreases-loop-rest
decreases-loop-rest l = length l.rest
