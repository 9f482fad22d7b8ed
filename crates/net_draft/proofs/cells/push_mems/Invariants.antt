use Rattle.std.proofs.Common.{length}
use Rattle.net_draft.specs.Cells.{AllFit}
use Rattle.net_draft.proofs.Adding.{MemsLeft}
use Rattle.net_draft.proofs.cells.push_mems.Given as goal

abbrev pub invariant-loop-rest : goal.invariant-loop-rest
invariant-loop-rest l = AllFit l.rest × MemsLeft l.initial.taken l.fn.mems l.initial.cells.items l.taken l.rest l.cells.items

abbrev pub decreases-loop-rest : goal.decreases-loop-rest
decreases-loop-rest l = length l.rest
