use Rattle.std.proofs.Common.{◌≡◌, length}
use Rattle.lib_judge.specs.Judge.{rises_from}
use Rattle.lib_judge.proofs.judge.rises_from.Given as goal

abbrev pub invariant-loop-rest : goal.invariant-loop-rest
invariant-loop-rest l = rises_from l.before l.rest ≡ rises_from l.first l.widths

abbrev pub decreases-loop-rest : goal.decreases-loop-rest
decreases-loop-rest l = length l.rest
