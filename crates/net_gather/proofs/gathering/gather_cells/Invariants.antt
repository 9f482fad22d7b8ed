use Rattle.std.proofs.Common.{◌≡◌, ◌+◌, ◌++◌, length}
use Rattle.net_gather.specs.Cells.{context_of}
use Rattle.net_gather.specs.Gather.{cell_faults, counts_of, raw_cells}
use Rattle.net_gather.proofs.gathering.gather_cells.Given as goal

abbrev pub invariant-loop-rest : goal.invariant-loop-rest
invariant-loop-rest l =
    (cell_faults (context_of l.around) l.place l.counts l.rest ≡ cell_faults (context_of l.around) 0 l.fn.counts l.items)
    × (l.cells.items ++ raw_cells (context_of l.around) l.counts l.rest ≡ raw_cells (context_of l.around) l.fn.counts l.items)
    × (counts_of (context_of l.around) l.counts l.rest ≡ counts_of (context_of l.around) l.fn.counts l.items)
    × (l.place + length l.rest ≡ length l.items)

abbrev pub decreases-loop-rest : goal.decreases-loop-rest
decreases-loop-rest l = length l.rest
