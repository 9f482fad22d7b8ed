use Rattle.mem_rows.proofs.Within.{within}
use Rattle.mem_rows.proofs.laws.no_limit_is_within.Goals as goal

pub returns : goal.returns
returns c = within
