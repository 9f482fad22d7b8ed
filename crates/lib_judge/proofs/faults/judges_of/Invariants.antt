use Rattle.std.proofs.Common.{◌≡◌, ◌++◌, length}
use Rattle.lib_judge.specs.Faults.{judges_of}
use Rattle.lib_judge.proofs.faults.judges_of.Given as goal

abbrev pub invariant-loop-rest : goal.invariant-loop-rest
invariant-loop-rest l = l.judges.items ++ judges_of l.ram l.rest ≡ judges_of l.ram l.rows

abbrev pub decreases-loop-rest : goal.decreases-loop-rest
decreases-loop-rest l = length l.rest
