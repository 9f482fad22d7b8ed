use Rattle.picked_run.proofs.Picked.{is_run}
use Rattle.picked_run.proofs.laws.picked_run_is_run.Goals as goal

pub returns : goal.returns
returns c = is_run c.register_run_is_allowed.ensures c.memory_run_is_allowed.ensures c.picked_run_is_allowed.ensures
