use Rattle.std.proofs.Common.{◌≡◌, length}
use Rattle.net_wires.specs.Counting.{bump_all}
use Rattle.net_wires.proofs.driving.bump_all.Given as goal

abbrev pub invariant-loop-rest : goal.invariant-loop-rest
invariant-loop-rest l = bump_all l.counts.items l.rest ≡ bump_all l.initial.counts.items l.sources

abbrev pub decreases-loop-rest : goal.decreases-loop-rest
decreases-loop-rest l = length l.rest
