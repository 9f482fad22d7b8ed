use Rattle.std.proofs.Common.{length}
use Rattle.part_faults.specs.Tables.{module_of}
use Rattle.part_faults.proofs.Finding.{Going}
use Rattle.part_faults.proofs.checking.first_fault.Given as goal

abbrev pub invariant-loop-rest : goal.invariant-loop-rest
invariant-loop-rest l = Going (module_of l.tables) l.rest l.seen.items

abbrev pub decreases-loop-rest : goal.decreases-loop-rest
decreases-loop-rest l = length l.rest
