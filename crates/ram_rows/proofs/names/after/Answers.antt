use Rattle.ram_rows.proofs.Fronts.{begins}
use Rattle.ram_rows.proofs.names.after.Goals as goal

pub returns : goal.returns
returns c = begins c.args.text.now c.args.front.now c.strip_prefix.result c.strip_prefix.ensures.cases
