use Rattle.ram_emit.proofs.Simulated.{placed_refines}
use Rattle.ram_emit.proofs.laws.placed_refines.Goals as goal

pub returns : goal.returns
returns c = placed_refines c.simulation_refines.ensures
