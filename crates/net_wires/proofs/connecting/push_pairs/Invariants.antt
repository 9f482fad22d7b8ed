use Rattle.std.proofs.Common.{◌≡◌, ◌++◌, length}
use Rattle.net_wires.specs.Connects.{pair_up}
use Rattle.net_wires.proofs.connecting.push_pairs.Given as goal

abbrev pub invariant-loop-lefts : goal.invariant-loop-lefts
invariant-loop-lefts l = l.pairs.items ++ pair_up l.lefts l.rights ≡ l.initial.pairs.items ++ pair_up l.left l.right

abbrev pub decreases-loop-lefts : goal.decreases-loop-lefts
decreases-loop-lefts l = length l.lefts
