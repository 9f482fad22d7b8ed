use Rattle.std.proofs.Common.{◌≡◌, length}
use Rattle.ram_emit.specs.Cell as spec
use Rattle.ram_emit.proofs.groups.write_in.Given as goal

abbrev pub invariant-loop-rest : goal.invariant-loop-rest
invariant-loop-rest l = spec.write_in l.number l.rest l.others ≡ spec.write_in l.fn.number l.fn.writes l.fn.groups

abbrev pub decreases-loop-rest : goal.decreases-loop-rest
decreases-loop-rest l = length l.rest
