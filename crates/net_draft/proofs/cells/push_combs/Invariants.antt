use Rattle.std.proofs.Common.{◌≡◌, ◌++◌, map, length}
use Rattle.net_draft.specs.Rows as rows
use Rattle.net_draft.proofs.cells.push_combs.Given as goal

abbrev pub invariant-loop-rest : goal.invariant-loop-rest
invariant-loop-rest l = l.cells.items ++ map (λ c. rows.comb_cell c) l.rest ≡ l.initial.cells.items ++ map (λ c. rows.comb_cell c) l.fn.combs

abbrev pub decreases-loop-rest : goal.decreases-loop-rest
decreases-loop-rest l = length l.rest
