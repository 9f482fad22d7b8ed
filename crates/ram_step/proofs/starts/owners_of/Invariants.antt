use Rattle.std.proofs.Common.{◌≡◌, ◌+◌, ◌++◌, length}
use Rattle.ram_step.specs.Owners.{owners_from, owners_of}
use Rattle.ram_step.proofs.starts.owners_of.Given as goal

abbrev pub invariant-loop-rest : goal.invariant-loop-rest
invariant-loop-rest l = (l.list.items ++ owners_from l.number l.rest ≡ owners_of l.groups) × (l.number + length l.rest ≡ length l.groups)

abbrev pub decreases-loop-rest : goal.decreases-loop-rest
decreases-loop-rest l = length l.rest
