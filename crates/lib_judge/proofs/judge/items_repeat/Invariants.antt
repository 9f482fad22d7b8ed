use Rattle.std.proofs.Common.{◌≡◌, length}
use Rattle.lib_judge.specs.Judge.{items_repeat}
use Rattle.lib_judge.proofs.judge.items_repeat.Given as goal

abbrev pub invariant-loop-rest : goal.invariant-loop-rest
invariant-loop-rest l = items_repeat l.rest ≡ items_repeat l.items

abbrev pub decreases-loop-rest : goal.decreases-loop-rest
decreases-loop-rest l = length l.rest
