use Rattle.std.proofs.Common.{◌≡◌, ◌++◌, length}
use Rattle.flow_top.specs.Joining.{joined}
use Rattle.flow_top.specs.Joining.{contents}
use Rattle.flow_top.proofs.joining.joined.Given as goal

-- what is there so far and the rest are the whole
abbrev pub invariant-loop-rest : goal.invariant-loop-rest
invariant-loop-rest l = l.text.items ++ joined (contents l.rest) ≡ joined (contents l.pieces)

abbrev pub decreases-loop-rest : goal.decreases-loop-rest
decreases-loop-rest l = length l.rest
