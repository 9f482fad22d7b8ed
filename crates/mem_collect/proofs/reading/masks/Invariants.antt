use Rattle.std.proofs.Common.{◌≡◌, ◌++◌, length}
use Rattle.mem_collect.specs.Unpacked as unpacked
use Rattle.mem_collect.proofs.reading.masks.Given as goal

abbrev pub invariant-loop-rest : goal.invariant-loop-rest
invariant-loop-rest l = l.bits.items ++ unpacked.masks l.row l.rest l.mask l.span ≡ unpacked.masks l.fn.row l.fn.writes l.fn.mask l.fn.span

abbrev pub decreases-loop-rest : goal.decreases-loop-rest
decreases-loop-rest l = length l.rest
