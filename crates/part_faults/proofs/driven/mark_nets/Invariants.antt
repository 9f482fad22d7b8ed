use Rattle.std.proofs.Common.{◌≡◌, length}
use Rattle.part_faults.specs.Driven.{mark_nets}
use Rattle.part_faults.proofs.driven.mark_nets.Given as goal

abbrev pub invariant-loop-rest : goal.invariant-loop-rest
invariant-loop-rest l = mark_nets l.marks.items l.rest ≡ mark_nets l.initial.marks.items l.nets

abbrev pub decreases-loop-rest : goal.decreases-loop-rest
decreases-loop-rest l = length l.rest
