use Rattle.ram_emit.proofs.Validity.{placed_is_valid}
use Rattle.ram_emit.proofs.laws.placed_is_valid.Goals as goal

pub returns : goal.returns
returns c = placed_is_valid
