use Rattle.std.proofs.Common.{◌^◌}
use Rattle.fit_rules.proofs.Bounds.{cells_few, row_bits_few, small_power_few}
use Rattle.fit_rules.proofs.shapes.cells.Goals as goal

pub returns-clause-bound : goal.returns-clause-bound
returns-clause-bound c =
    let mem = c.args.mem.now in
    let fold = c.args.spot.fold in
    rw (c.from.ensures, c.from-2.ensures, c.from-3.ensures) (cells_few c.copies.result c.rows.result c.columns.result mem.size mem.width (2 ^ fold) c.copies.ensures.bound c.rows.ensures.full c.columns.ensures.within c.requires.memory.bits
    (row_bits_few mem.width (2 ^ fold) c.requires.memory.few_bits (small_power_few fold c.requires.spot.fold)))
