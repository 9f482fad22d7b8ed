use Rattle.std.proofs.Common.{◌≡◌, length}
use Rattle.net_checks.specs.Names.{first_name}
use Rattle.net_checks.proofs.naming.first_name.Given as goal

abbrev pub invariant-loop-rest : goal.invariant-loop-rest
invariant-loop-rest l = first_name l.rest ≡ first_name l.parts

abbrev pub decreases-loop-rest : goal.decreases-loop-rest
decreases-loop-rest l = length l.rest
