use Rattle.ram_emit.proofs.Simulated.{placed_simulates}
use Rattle.ram_emit.proofs.laws.placed_simulates.Goals as goal

pub returns : goal.returns
returns c = placed_simulates
