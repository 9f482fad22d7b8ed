use Rattle.std.proofs.Common.{◌≡◌, ◌++◌, map, length}
use Rattle.net_draft.specs.Rows as rows
use Rattle.net_draft.proofs.cells.push_regs.Given as goal

abbrev pub invariant-loop-rest : goal.invariant-loop-rest
invariant-loop-rest l = l.cells.items ++ map (λ r. rows.reg_cell r) l.rest ≡ l.initial.cells.items ++ map (λ r. rows.reg_cell r) l.fn.regs

abbrev pub decreases-loop-rest : goal.decreases-loop-rest
decreases-loop-rest l = length l.rest
