use Rattle.net_wires.proofs.Spelling.{signal_gives}
use Rattle.net_wires.proofs.laws.parts_give_bits.Goals as goal

pub returns : goal.returns
returns c = signal_gives
