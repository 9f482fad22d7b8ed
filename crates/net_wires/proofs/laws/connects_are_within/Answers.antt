use Rattle.net_wires.specs.Parts.{signal_bits}
use Rattle.net_wires.proofs.Reach.{pair_in, signal_in}
use Rattle.net_wires.proofs.laws.connects_are_within.Goals as goal

pub returns : goal.returns
returns c = λ n names left right t. pair_in n (signal_bits names left) (signal_bits names right) (signal_in n names left t) (signal_in n names right t)
