use Rattle.picked_run.proofs.Picked.{is_trace}
use Rattle.picked_run.proofs.laws.shown_is_trace.Goals as goal

pub returns : goal.returns
returns c = is_trace c.picked_run_is_run.ensures
