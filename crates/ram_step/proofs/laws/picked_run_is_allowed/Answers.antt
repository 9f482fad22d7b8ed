use Rattle.ram_step.proofs.Allowed.{allowed}
use Rattle.ram_step.proofs.laws.picked_run_is_allowed.Goals as goal

pub returns : goal.returns
returns c = allowed
