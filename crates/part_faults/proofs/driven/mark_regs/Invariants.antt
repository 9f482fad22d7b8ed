use Rattle.std.proofs.Common.{◌≡◌, length}
use Rattle.part_faults.specs.Driven.{mark_each, mark_reg}
use Rattle.part_faults.proofs.driven.mark_regs.Given as goal

abbrev pub invariant-loop-rest : goal.invariant-loop-rest
invariant-loop-rest l = mark_each mark_reg l.marks.items l.rest ≡ mark_each mark_reg l.initial.marks.items l.regs

abbrev pub decreases-loop-rest : goal.decreases-loop-rest
decreases-loop-rest l = length l.rest
