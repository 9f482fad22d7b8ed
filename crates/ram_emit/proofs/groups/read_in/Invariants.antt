use Rattle.std.proofs.Common.{◌≡◌, length}
use Rattle.ram_emit.specs.Cell as spec
use Rattle.ram_emit.proofs.groups.read_in.Given as goal

abbrev pub invariant-loop-rest : goal.invariant-loop-rest
invariant-loop-rest l = spec.read_in l.number l.rest l.others ≡ spec.read_in l.fn.number l.fn.reads l.fn.places

abbrev pub decreases-loop-rest : goal.decreases-loop-rest
decreases-loop-rest l = length l.rest
