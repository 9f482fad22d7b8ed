use Rattle.std.proofs.Common.{◌≡◌, length}
use Rattle.lib_judge.specs.Faults.{last_from}
use Rattle.lib_judge.proofs.faults.last_from.Given as goal

abbrev pub invariant-loop-rest : goal.invariant-loop-rest
invariant-loop-rest l = last_from l.last l.rest ≡ last_from l.first l.widths

abbrev pub decreases-loop-rest : goal.decreases-loop-rest
decreases-loop-rest l = length l.rest
