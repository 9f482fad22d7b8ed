use Rattle.std.proofs.Common.{◌≡◌, length, max}
use Rattle.net_collect.specs.Gathered as spec
use Rattle.net_collect.proofs.gathered.write_abits.Given as goal

abbrev pub invariant-loop-rest : goal.invariant-loop-rest
invariant-loop-rest l = max l.most (spec.write_abits l.rest) ≡ spec.write_abits l.fn.cells

abbrev pub decreases-loop-rest : goal.decreases-loop-rest
decreases-loop-rest l = length l.rest
