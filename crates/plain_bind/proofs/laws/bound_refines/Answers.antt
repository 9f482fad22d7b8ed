use Rattle.plain_bind.proofs.Cells.{bound_refines}
use Rattle.plain_bind.proofs.laws.bound_refines.Goals as goal

pub returns : goal.returns
returns c = bound_refines c.placed_simulates.ensures c.simulates_itself.ensures c.simulations_compose.ensures c.simulation_refines.ensures
