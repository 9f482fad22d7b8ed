use Rattle.trace_text.proofs.Capping.{joined}
use Rattle.trace_text.proofs.Sizes.{count_rows, bytes_rows}
use Rattle.trace_text.proofs.length.lines_of.Goals as goal

pub returns-clause-count : goal.returns-clause-count
returns-clause-count c =
    joined _ _ _ _ _ _ (rw c.as_slice.ensures at c.with_wires-wires.ensures.count) (rw c.as_slice-2.ensures at c.with_cells.ensures.count) (count_rows c.args.«module».now)

pub returns-clause-bytes : goal.returns-clause-bytes
returns-clause-bytes c =
    joined _ _ _ _ _ _ (rw c.as_slice.ensures at c.with_wires-wires.ensures.bytes) (rw c.as_slice-2.ensures at c.with_cells.ensures.bytes) (bytes_rows c.args.«module».now)
