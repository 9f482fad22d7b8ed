use Rattle.std.proofs.Common.{◌≡◌, ◌+◌, length}
use Rattle.net_gather.specs.OpenPins.{open_count}
use Rattle.net_gather.proofs.counts.with_open.Given as goal

abbrev pub invariant-loop-rest : goal.invariant-loop-rest
invariant-loop-rest l = l.count + open_count l.rest ≡ l.before + open_count l.pins

abbrev pub decreases-loop-rest : goal.decreases-loop-rest
decreases-loop-rest l = length l.rest
