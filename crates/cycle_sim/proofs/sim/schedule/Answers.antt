use Rattle.cycle_sim.proofs.Counts.{few_cells}
use Rattle.cycle_sim.proofs.sim.schedule.Goals as goal

pub new-requires-clause-few : goal.new-requires-clause-few
new-requires-clause-few c = few_cells c.args.library.now c.args.«module».now c.requires
