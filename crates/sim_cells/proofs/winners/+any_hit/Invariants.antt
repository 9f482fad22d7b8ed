use Rattle.std.proofs.Common.{length}
use Rattle.sim_cells.proofs.winners.+any_hit.Given as goal

abbrev pub decreases-any_hit : goal.decreases-any_hit
decreases-any_hit l = length l.hits.now
