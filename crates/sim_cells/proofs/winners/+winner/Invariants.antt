use Rattle.std.proofs.Common.{length}
use Rattle.sim_cells.proofs.winners.+winner.Given as goal

abbrev pub decreases-winner : goal.decreases-winner
decreases-winner l = length l.hits.now
