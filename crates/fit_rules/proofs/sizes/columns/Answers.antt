use Rattle.fit_rules.proofs.Bounds.{columns_few}
use Rattle.fit_rules.proofs.sizes.columns.Goals as goal

pub returns-clause-bound : goal.returns-clause-bound
returns-clause-bound c = columns_few c.layout.result.columns c.args.mem.now.width c.args.spot.fold c.layout.ensures.few_columns c.requires.memory.few_bits c.requires.spot.fold
