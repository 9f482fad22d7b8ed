use Rattle.std.proofs.Common.{◌+◌, length}
use Rattle.ram_emit.specs.Cell as spec
use Rattle.ram_emit.proofs.Pushing.{Pushed}
use Rattle.ram_emit.proofs.groups.ports_of.Given as goal

abbrev pub invariant-loop-rest : goal.invariant-loop-rest
invariant-loop-rest l =
    Pushed l.variant l.mem l.choice l.slots.items l.next l.number l.rest (spec.uses_from l.variant l.mem l.choice 0 l.variant.groups l.first) (l.first + spec.nets_from l.variant l.mem l.choice 0 l.variant.groups)

abbrev pub decreases-loop-rest : goal.decreases-loop-rest
decreases-loop-rest l = length l.rest
