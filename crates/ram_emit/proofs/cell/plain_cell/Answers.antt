use Rattle.std.proofs.Common.{sym}
use Rattle.ram_emit.proofs.Given.{limits_at}
use Rattle.ram_emit.proofs.cell.plain_cell.Goals as goal

pub cell_of-requires-clause-limits : goal.cell_of-requires-clause-limits
cell_of-requires-clause-limits c =
    limits_at c.args.lib.now c.args.choice.now.ram c.args.choice.now.variant c.in-Some.variant.now c.requires.library (sym c.in-Some.ensures)
