use Rattle.std.proofs.Common.{length}
use Rattle.part_faults.proofs.Writing.{Noted}
use Rattle.part_faults.proofs.writes.write_ids.Given as goal

abbrev pub invariant-loop-rest : goal.invariant-loop-rest
invariant-loop-rest l = Noted l.«module» l.rest l.rows.items

abbrev pub decreases-loop-rest : goal.decreases-loop-rest
decreases-loop-rest l = length l.rest
