use Rattle.std.proofs.Common.{◌≡◌, length}
use Rattle.raw_cells.specs.Tied.{marked}
use Rattle.raw_cells.proofs.tied.mark_all.Given as goal

abbrev pub invariant-loop-rest : goal.invariant-loop-rest
invariant-loop-rest l = marked l.marks.items l.rest ≡ marked l.initial.marks.items l.places

abbrev pub decreases-loop-rest : goal.decreases-loop-rest
decreases-loop-rest l = length l.rest
