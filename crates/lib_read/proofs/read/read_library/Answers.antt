use Rattle.lib_read.proofs.Whole.{is_first, is_found, only_reads}
use Rattle.lib_read.proofs.read.read_library.Goals as goal

pub returns-in-Ok-clause-found : goal.returns-in-Ok-clause-found
returns-in-Ok-clause-found c = is_found c.args.bytes.now c.in-Ok.statements c.read_rams.result c.in-Ok.ensures.found (rw c.as_slice.ensures at c.read_rams.ensures)

pub returns-in-Ok-clause-only : goal.returns-in-Ok-clause-only
returns-in-Ok-clause-only c = λ l reads within. only_reads c.args.bytes.now c.in-Ok.statements c.read_rams.result l c.in-Ok.ensures.only (rw c.as_slice.ensures at c.read_rams.ensures) reads within

pub returns-in-Ok-clause-first : goal.returns-in-Ok-clause-first
returns-in-Ok-clause-first c = is_first c.args.bytes.now c.in-Ok.statements c.read_rams.result c.in-Ok.ensures.found (rw c.as_slice.ensures at c.read_rams.ensures)
