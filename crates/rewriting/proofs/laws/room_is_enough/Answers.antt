use Rattle.rewriting.proofs.Roomy.{room_is_enough}
use Rattle.rewriting.proofs.laws.room_is_enough.Goals as goal

pub returns : goal.returns
returns c = room_is_enough
