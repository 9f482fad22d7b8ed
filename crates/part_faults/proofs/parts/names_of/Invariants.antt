use Rattle.std.proofs.Common.{◌≡◌, ◌++◌, length}
use Rattle.part_faults.specs.Parts as spec
use Rattle.part_faults.proofs.parts.names_of.Given as goal

abbrev pub invariant-loop-rest : goal.invariant-loop-rest
invariant-loop-rest l = l.names.items ++ spec.names_of l.rest ≡ spec.names_of l.fn.declared

abbrev pub decreases-loop-rest : goal.decreases-loop-rest
decreases-loop-rest l = length l.rest
