use Rattle.std.proofs.Common.{◌≡◌, ◌++◌, length}
use Rattle.lib_judge.specs.Names.{names_of_all}
use Rattle.lib_judge.proofs.faults.names_of_all.Given as goal

abbrev pub invariant-loop-rest : goal.invariant-loop-rest
invariant-loop-rest l = l.names.items ++ names_of_all l.rest ≡ names_of_all l.ports

abbrev pub decreases-loop-rest : goal.decreases-loop-rest
decreases-loop-rest l = length l.rest
