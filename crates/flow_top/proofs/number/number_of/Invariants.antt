use Rattle.std.proofs.Common.{◌≡◌, length}
use Rattle.flow_top.specs.Number.{number_of, number_from}
use Rattle.flow_top.proofs.number.number_of.Given as goal

-- the rest, read behind the number so far, is all of it
abbrev pub invariant-loop-rest : goal.invariant-loop-rest
invariant-loop-rest l = number_from l.number l.rest ≡ number_of l.digits

abbrev pub decreases-loop-rest : goal.decreases-loop-rest
decreases-loop-rest l = length l.rest
