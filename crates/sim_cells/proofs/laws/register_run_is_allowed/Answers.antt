use Rattle.sim_cells.proofs.RegisterRuns.{allowed}
use Rattle.sim_cells.proofs.laws.register_run_is_allowed.Goals as goal

pub returns : goal.returns
returns c = allowed
