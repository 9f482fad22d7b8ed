use Rattle.std.proofs.Common.{length}
use Rattle.sim_cells.proofs.winners.+all_masked.Given as goal

abbrev pub decreases-all_masked : goal.decreases-all_masked
decreases-all_masked l = length l.hits.now
