use Rattle.std.proofs.Common.{◌≡◌, length}
use Rattle.lib_judge.specs.Judge.{settings_repeat}
use Rattle.lib_judge.proofs.judge.settings_repeat.Given as goal

abbrev pub invariant-loop-rest : goal.invariant-loop-rest
invariant-loop-rest l = settings_repeat l.known l.ports l.rest ≡ settings_repeat l.known l.ports l.settings

abbrev pub decreases-loop-rest : goal.decreases-loop-rest
decreases-loop-rest l = length l.rest
