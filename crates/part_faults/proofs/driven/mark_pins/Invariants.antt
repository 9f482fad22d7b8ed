use Rattle.std.proofs.Common.{◌≡◌, length}
use Rattle.part_faults.specs.Driven.{mark_each, mark_pin}
use Rattle.part_faults.proofs.driven.mark_pins.Given as goal

abbrev pub invariant-loop-rest : goal.invariant-loop-rest
invariant-loop-rest l = mark_each mark_pin l.marks.items l.rest ≡ mark_each mark_pin l.initial.marks.items l.pins

abbrev pub decreases-loop-rest : goal.decreases-loop-rest
decreases-loop-rest l = length l.rest
