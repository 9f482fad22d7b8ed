use Rattle.std.proofs.Common.{length}
use Rattle.sim_cells.proofs.winners.+none_masked.Given as goal

abbrev pub decreases-none_masked : goal.decreases-none_masked
decreases-none_masked l = length l.hits.now
