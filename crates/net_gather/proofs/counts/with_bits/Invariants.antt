use Rattle.std.proofs.Common.{◌≡◌, ◌+◌, length}
use Rattle.net_gather.specs.Counts.{pins_size}
use Rattle.net_gather.proofs.counts.with_bits.Given as goal

abbrev pub invariant-loop-rest : goal.invariant-loop-rest
invariant-loop-rest l = l.count + pins_size l.long l.rest ≡ l.before + pins_size l.long l.pins

abbrev pub decreases-loop-rest : goal.decreases-loop-rest
decreases-loop-rest l = length l.rest
