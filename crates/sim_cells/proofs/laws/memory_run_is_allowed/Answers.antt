use Rattle.sim_cells.proofs.MemoryRuns.{allowed}
use Rattle.sim_cells.proofs.laws.memory_run_is_allowed.Goals as goal

pub returns : goal.returns
returns c = allowed
