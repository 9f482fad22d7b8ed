use Rattle.ram_written.proofs.Known.{knows_written}
use Rattle.ram_written.proofs.laws.knows_written.Goals as goal

pub returns : goal.returns
returns c = knows_written
