use Rattle.std.proofs.Common.{◌≡◌, [], length}
use Rattle.lib_judge.specs.Names.{distinct_from}
use Rattle.lib_judge.proofs.names.distinct.Given as goal

abbrev pub invariant-loop-rest : goal.invariant-loop-rest
invariant-loop-rest l = distinct_from l.seen l.rest ≡ distinct_from [] l.names

abbrev pub decreases-loop-rest : goal.decreases-loop-rest
decreases-loop-rest l = length l.rest
