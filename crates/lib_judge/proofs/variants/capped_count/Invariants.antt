use Rattle.std.proofs.Common.{◌≡◌, ◌≤◌, length}
use Rattle.lib_judge.specs.Variants.{capped_count}
use Rattle.lib_judge.proofs.variants.capped_count.Given as goal

abbrev pub invariant-loop-rest : goal.invariant-loop-rest
invariant-loop-rest l = record { same : capped_count l.count l.rest ≡ capped_count 1 l.axes; small : l.count ≤ 257 }

abbrev pub decreases-loop-rest : goal.decreases-loop-rest
decreases-loop-rest l = length l.rest
