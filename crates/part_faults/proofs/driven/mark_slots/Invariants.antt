use Rattle.std.proofs.Common.{◌≡◌, length}
use Rattle.part_faults.specs.Driven.{mark_each, mark_slot}
use Rattle.part_faults.proofs.driven.mark_slots.Given as goal

abbrev pub invariant-loop-rest : goal.invariant-loop-rest
invariant-loop-rest l = mark_each mark_slot l.marks.items l.rest ≡ mark_each mark_slot l.initial.marks.items l.slots

abbrev pub decreases-loop-rest : goal.decreases-loop-rest
decreases-loop-rest l = length l.rest
