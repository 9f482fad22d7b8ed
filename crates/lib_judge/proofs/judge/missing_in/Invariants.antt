use Rattle.std.proofs.Common.{◌≡◌, length}
use Rattle.lib_judge.specs.Judge.{missing_in}
use Rattle.lib_judge.proofs.judge.missing_in.Given as goal

abbrev pub invariant-loop-rest : goal.invariant-loop-rest
invariant-loop-rest l = missing_in l.known l.rest l.behind ≡ missing_in l.known l.ports l.settings

abbrev pub decreases-loop-rest : goal.decreases-loop-rest
decreases-loop-rest l = length l.rest
