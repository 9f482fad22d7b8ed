use Rattle.std.proofs.Common.{◌≡◌, length}
use Rattle.part_faults.specs.Driven.{mark_each, mark_read}
use Rattle.part_faults.proofs.driven.mark_reads.Given as goal

abbrev pub invariant-loop-rest : goal.invariant-loop-rest
invariant-loop-rest l = mark_each mark_read l.marks.items l.rest ≡ mark_each mark_read l.initial.marks.items l.reads

abbrev pub decreases-loop-rest : goal.decreases-loop-rest
decreases-loop-rest l = length l.rest
