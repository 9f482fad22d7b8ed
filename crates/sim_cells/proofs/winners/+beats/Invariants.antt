use Rattle.std.proofs.Common.{length}
use Rattle.sim_cells.proofs.winners.+beats.Given as goal

abbrev pub decreases-beats : goal.decreases-beats
decreases-beats l = length l.hits.now
