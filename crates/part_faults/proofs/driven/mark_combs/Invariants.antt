use Rattle.std.proofs.Common.{◌≡◌, length}
use Rattle.part_faults.specs.Driven.{mark_each, mark_comb}
use Rattle.part_faults.proofs.driven.mark_combs.Given as goal

abbrev pub invariant-loop-rest : goal.invariant-loop-rest
invariant-loop-rest l = mark_each mark_comb l.marks.items l.rest ≡ mark_each mark_comb l.initial.marks.items l.combs

abbrev pub decreases-loop-rest : goal.decreases-loop-rest
decreases-loop-rest l = length l.rest
