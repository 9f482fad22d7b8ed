use Rattle.ram_written.proofs.Strange.{no_strange_level}
use Rattle.ram_written.proofs.laws.no_strange_level.Goals as goal

pub returns : goal.returns
returns c = no_strange_level
