use Rattle.net_gates.proofs.Numbers.{IsBuilding}
use Rattle.net_gates.proofs.constants.constant.Given as goal

abbrev pub invariant-loop-rest : goal.invariant-loop-rest
invariant-loop-rest l = IsBuilding l.fn.number l.rest l.bits.items

abbrev pub decreases-loop-rest : goal.decreases-loop-rest
decreases-loop-rest l = l.rest
