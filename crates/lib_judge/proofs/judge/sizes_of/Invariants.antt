use Rattle.std.proofs.Common.{◌≡◌, length}
use Rattle.lib_judge.specs.Judge.{plain_sizes, sizes_from}
use Rattle.lib_judge.proofs.judge.sizes_of.Given as goal

abbrev pub invariant-loop-rest : goal.invariant-loop-rest
invariant-loop-rest l = sizes_from l.sizes l.rest ≡ sizes_from plain_sizes l.items

abbrev pub decreases-loop-rest : goal.decreases-loop-rest
decreases-loop-rest l = length l.rest
